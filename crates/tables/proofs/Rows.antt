-- One step of each kind, from numbers that are known: x + m·y, m·y, and x / p.
use mathlib.Core.Path.{◌≡◌, refl, ◌∙◌}
use Prim.Native.Nat.{ℕ}
use mathlib.Core.Bool.{Bool}
use lib.Ieee.{Float}
use Rattle.definitions.specs.Numbers.{◌⊕◌, ◌⊗◌, ◌⊘◌, mul_in_range, div_in_range}
use Rattle.tables.specs.Operators.{between}
use Rattle.tables.specs.Rows.{plus_multiple, times_in_range, over, over_in_range}
use Rattle.steps.proofs.AddProduct.{step_same}

-- At column j of a row.
module _ (j : ℕ) (own : ℕ → Float) {x : Float} (a : x ≡ own j) where
  pub plus_multiple_lem : (m : Float) (other : ℕ → Float) {y : Float} → y ≡ other j → x ⊕ m ⊗ y ≡ plus_multiple m own other j
  unfolding plus_multiple
  plus_multiple_lem m other b = step_same a refl b

  pub times_test : (m : Float) {ok : Bool} → ok ≡ mul_in_range m x → ok ≡ times_in_range m own j
  unfolding times_in_range
  times_test m e = e ∙ rw a

  module _ (p : Float) where
    pub over_is : x ⊘ p ≡ over p own j
    unfolding over
    over_is = rw a

    pub over_test : {ok : Bool} → ok ≡ div_in_range x p → ok ≡ over_in_range p own j
    unfolding over_in_range
    over_test e = e ∙ rw a

-- A whole row.
pub row-over_same : (c : ℕ) {p p' : Float} {own own' : ℕ → Float} → p ≡ p' → own ≡ own' → between 0 c (over p own) own ≡ between 0 c (over p' own') own'
row-over_same c e a = rw (e, a)
