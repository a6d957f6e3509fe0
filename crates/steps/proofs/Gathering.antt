-- Loops that gather a test or a sum: their invariants, and what a turn does to each.
use mathlib.Core.Path.{◌≡◌, ap, ◌∙◌}
use Prim.Native.Nat.{ℕ, suc, ◌+◌, ◌-◌, ◌≤◌}
use native.Mathlib.Nat.{le_refl, le_antisymm, sub-zero, add-sub_of_le}
use native.Mathlib.Omega.{arith}
use mathlib.Core.Bool.{Bool, true, ◌&&◌}
use lib.Ieee.{Float}
use Rattle.definitions.specs.Numbers.{◌⊕◌, sum, all}

-- A loop from lo that gathers p: the turns before j are done.
pub record Gathered (p : ℕ → Bool) (lo j : ℕ) (ok : Bool) : Type 0 where
  pub from : lo ≤ j
  pub is : ok ≡ all p lo (j - lo)

-- A running sum in the same way.
pub record Summed (start : Float) (f : ℕ → Float) (lo j : ℕ) (x : Float) : Type 0 where
  pub from : lo ≤ j
  pub is : x ≡ sum start f lo (j - lo)

none_left : (lo : ℕ) → lo - lo ≡ 0
none_left lo = omega arith

one_more : (lo j : ℕ) → lo ≤ j → j + 1 - lo ≡ suc (j - lo)
one_more lo j l = omega arith

pub gathered_begins : {p : ℕ → Bool} {lo j : ℕ} → j ≡ lo → Gathered p lo j true
unfolding all
gathered_begins {p} {lo} {j} e = rw e (record { from = le_refl lo; is = rw (none_left lo) })

module _ {p : ℕ → Bool} {lo j : ℕ} {ok : Bool} (h : Gathered p lo j ok) where
  pub gathered_turns : {now : Bool} → now ≡ p j → Gathered p lo (j + 1) (ok && now)
  unfolding all
  gathered_turns e =
      record { from = omega (arith, h.from); is = rw (one_more lo j h.from) (rw (h.is, e, add-sub_of_le h.from)) }

  pub gathered_ends : {hi : ℕ} → j ≤ hi → hi ≤ j → ok ≡ all p lo (hi - lo)
  gathered_ends l m = rw (le_antisymm l m) at h.is

pub gathered_all : {p : ℕ → Bool} {j hi : ℕ} {ok : Bool} → Gathered p 0 j ok → j ≤ hi → hi ≤ j → ok ≡ all p 0 hi
gathered_all {p} {j} {hi} h l m = rw (sub-zero hi) at (gathered_ends h l m)

module _ {start : Float} {f : ℕ → Float} {lo : ℕ} where
  pub summed_begins : {j : ℕ} {x : Float} → j ≡ lo → x ≡ start → Summed start f lo j x
  unfolding sum
  summed_begins e q = rw (e, q) (record { from = le_refl lo; is = rw (none_left lo) })

  module _ {j : ℕ} {x : Float} (h : Summed start f lo j x) where
    pub summed_turns : {y : Float} → y ≡ f j → Summed start f lo (j + 1) (x ⊕ y)
    unfolding sum
    summed_turns e =
        record { from = omega (arith, h.from); is = rw (one_more lo j h.from) (rw (h.is, e, add-sub_of_le h.from)) }

    pub summed_ends : {hi : ℕ} → j ≤ hi → hi ≤ j → x ≡ sum start f lo (hi - lo)
    summed_ends l m = rw (le_antisymm l m) at h.is

-- What holds at the counter holds at the bound that it has reached.
pub at_end : {A : Type 0} (g : ℕ → A) {x : A} {l n : ℕ} → x ≡ g l → l ≤ n → n ≤ l → x ≡ g n
at_end g e l m = e ∙ ap g (le_antisymm l m)
