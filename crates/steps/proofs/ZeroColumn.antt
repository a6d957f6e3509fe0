-- The column of b past the last stage: zeros from its first step to its last (document 02, U3).
use mathlib.Core.Path.{◌≡◌, ◌∙◌}
use Prim.Native.Nat.{ℕ, zero, suc, ◌+◌, ◌-◌, ◌<◌}
use native.Mathlib.Nat.{sub_self}
use native.Mathlib.Omega.{arith}
use mathlib.Core.Bool.{true, ◌&&◌}
use lib.Dec.{T}
use lib.Ieee.{eq}
use lib.Ieee.Fits.{and_i, and_r}
use borrow.Author.Tests.{ne_eqb}
use Rattle.definitions.specs.Numbers.{◌⊘◌, 0·0, finite, is_zero, div_in_range, add_product_in_range, all}
use Rattle.definitions.specs.LeavingRates.{System, p, u, m↑, b↑, solved, shared_before, shared, column_before, column_upward, column}
use Rattle.rounding.proofs.Finite.{quotient_of_range}
use Rattle.rounding.proofs.AnyNumbers.{zero_other, zero_step}
use Rattle.rounding.proofs.Laws.{zero_is_good}
use Rattle.steps.proofs.All.{each_below, every_below}
use Rattle.steps.proofs.LeavingRatesSteps.{column_waits, upward_start, upward_step}

module _ (r : ℕ) (at : ℕ → System) (t : T (shared r at)) where
  multiplier-finite : (k i : ℕ) → i < k → k < r → T (finite (m↑ r at k i))
  unfolding shared m↑
  multiplier-finite k i l m =
      quotient_of_range (u r at i k) (p r at k)
      (each_below k (λ i. div_in_range (u r at i k) (p r at k)) (each_below r (λ k. all (λ i. div_in_range (u r at i k) (p r at k)) 0 k) (and_r (shared_before r at r) (all (λ k. all (λ i. div_in_range (u r at i k) (p r at k)) 0 k) 0 r) t) k m) i l)

  zero_upward : (q i : ℕ) → i + q < r → b↑ r at r q i ≡ 0·0
  zero_upward zero i l = upward_start r at r i (omega arith) ∙ column_waits r at r i i (omega arith) ∙ rw (ne_eqb i r (λ e. omega arith))
  zero_upward (suc q) i l =
      let k = r - suc q in
      upward_step r at r q i (omega arith)
      ∙ rw (zero_upward q i (omega arith)) (zero_other {x = 0·0} (m↑ r at k i) zero_is_good (multiplier-finite k i (omega arith) (omega arith)) (zero_upward q k (omega arith)))

  upward_in_range : T (column_upward r at r r)
  unfolding column_upward
  upward_in_range =
      every_below r (λ l. all (λ i. add_product_in_range (b↑ r at r l i) (m↑ r at (r - suc l) i) (b↑ r at r l (r - suc l))) 0 (r - suc l)) (λ l m.
      every_below (r - suc l) (λ i. add_product_in_range (b↑ r at r l i) (m↑ r at (r - suc l) i) (b↑ r at r l (r - suc l))) (λ i o.
      rw (zero_upward l i (omega arith), zero_upward l (r - suc l) (omega arith)) (zero_step (m↑ r at (r - suc l) i) (multiplier-finite (r - suc l) i o (omega arith)))))

  never_begins : T (column_before r at r r)
  unfolding column_before all
  never_begins = rw (sub_self r) tt

  divided : (i : ℕ) → i < r → T (finite (0·0 ⊘ p r at i)) → T (div_in_range (solved r at r i) (p r at i))
  unfolding solved div_in_range is_zero eq
  divided i l t = rw (zero_upward (r - suc i) i (omega arith)) (and_i (finite (0·0 ⊘ p r at i)) true t tt)

  -- Its steps are in range wherever the pivots divide.
  pub zero-column : ((i : ℕ) → i < r → T (finite (0·0 ⊘ p r at i))) → T (column r at r)
  unfolding column
  zero-column f =
      and_i (column_before r at r r && column_upward r at r r) (all (λ i. div_in_range (solved r at r i) (p r at i)) 0 r)
      (and_i (column_before r at r r) (column_upward r at r r) never_begins upward_in_range)
      (every_below r (λ i. div_in_range (solved r at r i) (p r at i)) (λ i l. divided i l (f i l)))
