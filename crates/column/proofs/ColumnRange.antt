-- The tests of one column: large products and the last division, in range, are all of document 01's. A finite answer has a finite dividend, and
-- a finite sum finite parts, so every result on the way to the answers is finite.
use mathlib.Core.Path.{◌≡◌}
use Prim.Native.Nat.{ℕ, zero, suc, ◌+◌, ◌-◌, ◌≤◌, ◌<◌}
use native.Mathlib.Omega.{arith}
use mathlib.Core.Bool.{Bool, ◌&&◌, ◌||◌}
use lib.Dec.{T}
use lib.Ieee.{Float, lt}
use lib.Ieee.Fits.{and_i, and_l, and_r}
use borrow.Author.Tests.{le-leb}
use Rattle.exact.proofs.Bools.{same_truth}
use Rattle.definitions.specs.Numbers.{◌⊕◌, ◌⊗◌, smallest, finite, is_zero, mul_in_range, div_in_range, add_product_in_range, all}
use Rattle.definitions.specs.LeavingRates.{System, p, m↓, m↑, b↓, b↑, solved, column_before, column_upward, column}
use Rattle.rounding.proofs.Finite.{sum-finite, dividend_of_range}
use Rattle.steps.proofs.All.{each, each_below, every}
use Rattle.steps.proofs.AddProduct.{product_of_step, step_of_product}
use Rattle.steps.proofs.LeavingRatesSteps.{column_step, upward_start, upward_step, solved_is}
use Rattle.column.specs.ColumnSteps.{large_product, large_down, large_up}

-- One step.
large_of_step : (x m y : Float) → T (add_product_in_range x m y) → T (large_product m y)
unfolding large_product mul_in_range
large_of_step x m y t = and_r (finite (m ⊗ y)) (is_zero m || is_zero y || lt smallest (m ⊗ y)) (product_of_step x m y t)

step_of_large : (x m y : Float) → T (finite (x ⊕ m ⊗ y)) → T (large_product m y) → T (add_product_in_range x m y)
unfolding large_product mul_in_range
step_of_large x m y f t =
    step_of_product x m y (and_i (finite (m ⊗ y)) (is_zero m || is_zero y || lt smallest (m ⊗ y)) (sum-finite x (m ⊗ y) f).1 t) f

module _ (r : ℕ) (at : ℕ → System) (j : ℕ) where
  -- The last division.
  abbrev last : Bool
  last = all (λ i. div_in_range (solved r at j i) (p r at i)) 0 r

  -- ---- finite results, backwards from the answers
  module _ (t : T last) where
    solved-finite : (i : ℕ) → i < r → T (finite (solved r at j i))
    solved-finite i l = dividend_of_range (solved r at j i) (p r at i) (each_below r (λ i. div_in_range (solved r at j i) (p r at i)) t i l)

    up-finite : (d q i : ℕ) → suc (i + q + d) ≡ r → T (finite (b↑ r at j q i))
    up-finite zero q i e = let n : r - suc i ≡ q = omega arith in rw (rw n at (solved_is r at j i)) at (solved-finite i (omega arith))
    up-finite (suc d) q i e =
        (sum-finite (b↑ r at j q i) (m↑ r at (r - suc q) i ⊗ b↑ r at j q (r - suc q)) (rw (upward_step r at j q i (omega arith)) at (up-finite d (suc q) i (omega arith)))).0

    down-finite : (d k i : ℕ) → j ≤ k → k + d ≡ i → i < r → T (finite (b↓ r at j k i))
    down-finite zero k i l e m = let n : i ≡ k = omega arith in rw (← n) (rw (upward_start r at j i m) at (up-finite (r - suc i) 0 i (omega arith)))
    down-finite (suc d) k i l e m =
        (sum-finite (b↓ r at j k i) (m↓ r at k i ⊗ b↓ r at j k k) (rw (column_step r at j k i (le-leb j k l) m) at (down-finite d (suc k) i (omega arith) (omega arith) m))).0

  -- ---- the tests of the stages
  before_of_large : T last → T (all (large_down r at j) j (r - j)) → T (column_before r at j r)
  unfolding column_before large_down
  before_of_large t u =
      every (λ k. all (λ i. add_product_in_range (b↓ r at j k i) (m↓ r at k i) (b↓ r at j k k)) (suc k) (r - suc k)) j (r - j) (λ k a b.
      every (λ i. add_product_in_range (b↓ r at j k i) (m↓ r at k i) (b↓ r at j k k)) (suc k) (r - suc k) (λ i c d.
      let m : i < r = omega arith in
      step_of_large (b↓ r at j k i) (m↓ r at k i) (b↓ r at j k k)
      (rw (column_step r at j k i (le-leb j k a) m) at (down-finite t (i - suc k) (suc k) i (omega arith) (omega arith) m))
      (each (λ i. large_product (m↓ r at k i) (b↓ r at j k k)) (suc k) (r - suc k) i (each (large_down r at j) j (r - j) k u a b) c d)))

  large_of_before : T (column_before r at j r) → T (all (large_down r at j) j (r - j))
  unfolding column_before large_down
  large_of_before u =
      every (large_down r at j) j (r - j) (λ k a b.
      every (λ i. large_product (m↓ r at k i) (b↓ r at j k k)) (suc k) (r - suc k) (λ i c d.
      large_of_step (b↓ r at j k i) (m↓ r at k i) (b↓ r at j k k)
      (each (λ i. add_product_in_range (b↓ r at j k i) (m↓ r at k i) (b↓ r at j k k)) (suc k) (r - suc k) i
      (each (λ k. all (λ i. add_product_in_range (b↓ r at j k i) (m↓ r at k i) (b↓ r at j k k)) (suc k) (r - suc k)) j (r - j) k u a b) c d)))

  upward_of_large : T last → T (all (large_up r at j) 0 r) → T (column_upward r at j r)
  unfolding column_upward large_up
  upward_of_large t u =
      every (λ q. all (λ i. add_product_in_range (b↑ r at j q i) (m↑ r at (r - suc q) i) (b↑ r at j q (r - suc q))) 0 (r - suc q)) 0 r (λ q a b.
      every (λ i. add_product_in_range (b↑ r at j q i) (m↑ r at (r - suc q) i) (b↑ r at j q (r - suc q))) 0 (r - suc q) (λ i c d.
      step_of_large (b↑ r at j q i) (m↑ r at (r - suc q) i) (b↑ r at j q (r - suc q))
      (rw (upward_step r at j q i (omega arith)) at (up-finite t (r - suc (i + suc q)) (suc q) i (omega arith)))
      (each (λ i. large_product (m↑ r at (r - suc q) i) (b↑ r at j q (r - suc q))) 0 (r - suc q) i (each (large_up r at j) 0 r q u a b) c d)))

  large_of_upward : T (column_upward r at j r) → T (all (large_up r at j) 0 r)
  unfolding column_upward large_up
  large_of_upward u =
      every (large_up r at j) 0 r (λ q a b.
      every (λ i. large_product (m↑ r at (r - suc q) i) (b↑ r at j q (r - suc q))) 0 (r - suc q) (λ i c d.
      large_of_step (b↑ r at j q i) (m↑ r at (r - suc q) i) (b↑ r at j q (r - suc q))
      (each (λ i. add_product_in_range (b↑ r at j q i) (m↑ r at (r - suc q) i) (b↑ r at j q (r - suc q))) 0 (r - suc q) i
      (each (λ q. all (λ i. add_product_in_range (b↑ r at j q i) (m↑ r at (r - suc q) i) (b↑ r at j q (r - suc q))) 0 (r - suc q)) 0 r q u a b) c d)))

  pub column_test : (all (large_down r at j) j (r - j) && all (large_up r at j) 0 r && last) ≡ column r at j
  unfolding column
  column_test =
      let down = all (large_down r at j) j (r - j) in
      let up = all (large_up r at j) 0 r in
      let before = column_before r at j r in
      let upward = column_upward r at j r in
      same_truth (down && up && last) (before && upward && last)
      (λ t.
      let z = and_r (down && up) last t in
      let s = and_l (down && up) last t in
      and_i (before && upward) last (and_i before upward (before_of_large z (and_l down up s)) (upward_of_large z (and_r down up s))) z)
      (λ t.
      let s = and_l (before && upward) last t in
      and_i (down && up) last (and_i down up (large_of_before (and_l before upward s)) (large_of_upward (and_r before upward s))) (and_r (before && upward) last t))
