-- The laws behind the upward multipliers, and the whole.
use mathlib.Core.Path.{◌≡◌, ap, ap₂, ◌∙◌}
use Prim.Native.Nat.{ℕ, suc, ◌-◌, ◌≤◌, ◌<◌, zero-le}
use native.Mathlib.Nat.{le_refl}
use native.Mathlib.Omega.{arith}
use mathlib.Core.Bool.{Bool, ◌&&◌}
use mathlib.Core.List.{List}
use lib.Ieee.{Float}
use Rattle.definitions.specs.Numbers.{◌⊘◌, div_in_range, all}
use Rattle.definitions.specs.LeavingRates.{Weights}
use Rattle.steps.proofs.All.{all_same}
use Rattle.tables.specs.RowMajor.{table, Gives}
use Rattle.tables.specs.Vectors.{vector, VectorHolds}
use Rattle.tables.specs.Operators.{between}
use Rattle.tables.proofs.Operators.{between_in, between_same}
use Rattle.passes.specs.Stages.{stages_done, stages_in_range, over_pivot, upward_rows, upward_row_in_range}
use Rattle.passes.proofs.SharedSteps.{shared_test, multipliers}
use Rattle.downward.specs.Downward.{on_diagonal, SharedTable}

-- The upward multipliers of row i look at that row and those below it, which are as they were at the start.
module _ (r i : ℕ) (f g : ℕ → ℕ → Float) (same : (a : ℕ) → i ≤ a → f a ≡ g a) where
  pub pivots_due : {p : List Float} (v : ℕ → Float) → VectorHolds p (between 0 r (on_diagonal g) v) → (k : ℕ) → i < k → k < r → vector p k ≡ on_diagonal f k
  unfolding on_diagonal
  pivots_due v h k l m = rw (h.is, between_in 0 r (on_diagonal g) v k zero-le m, same k (omega arith))

  pub upward_same : between (suc i) r (over_pivot f i) (f i) ≡ between (suc i) r (over_pivot g i) (g i)
  unfolding over_pivot
  upward_same =
      between_same (suc i) r (over_pivot f i) (over_pivot g i) (f i) (λ k l h. ap₂ (λ (x y : ℕ → Float). x k ⊘ y k) (same i (le_refl i)) (same k (omega arith)))
      ∙ ap (λ (x : ℕ → Float). between (suc i) r (over_pivot g i) x) (same i (le_refl i))

  pub upward_test_same : upward_row_in_range r f i ≡ upward_row_in_range r g i
  unfolding upward_row_in_range
  upward_test_same =
      all_same (λ k. div_in_range (f i k) (f k k)) (λ k. div_in_range (g i k) (g k k)) (suc i) (r - suc i) (λ k l h. ap₂ (λ (x y : ℕ → Float). div_in_range (x k) (y k)) (same i (le_refl i)) (same k (omega arith)))

-- One multiplier.
module _ (f : ℕ → ℕ → Float) (i k : ℕ) {x p : Float} (a : x ≡ f i k) (b : p ≡ on_diagonal f k) where
  pub over-pivot : x ⊘ p ≡ over_pivot f i k
  unfolding over_pivot on_diagonal
  over-pivot = rw (a, b)

  pub over-pivot_test : {ok : Bool} → ok ≡ div_in_range x p → ok ≡ div_in_range (f i k) (f k k)
  unfolding on_diagonal
  over-pivot_test e = e ∙ rw (a, b)

pub shared-table : (w : Weights) (r : ℕ) (f : ℕ → ℕ → Float) {ys zs : List Float} {down up : Bool}
    → Gives down (stages_in_range w r f r) ys (stages_done w r f r)
    → Gives up (all (upward_row_in_range r (table ys)) 0 r) zs (upward_rows r r (table ys))
    → SharedTable w r f (down && up) zs
shared-table w r f {ys} g h =
    record {
      range = ap₂ ◌&&◌ g.range (h.range ∙ rw g.holds.is) ∙ shared_test w r f;
      long = h.holds.long;
      multipliers = rw (h.holds.is ∙ ap (upward_rows r r) g.holds.is) (multipliers w r f);
    }
