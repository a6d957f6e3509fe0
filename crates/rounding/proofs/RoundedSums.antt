-- Sums: closure, and that the total tells whether every addition was in range.
use mathlib.Core.Path.{◌≡◌, refl}
use Prim.Native.Nat.{ℕ, zero, suc, ◌+◌, ◌≤◌, ◌<◌}
use native.Mathlib.Omega.{arith}
use mathlib.Core.Bool.{◌&&◌}
use lib.Dec.{T}
use lib.Ieee.{Float}
use lib.Ieee.Fits.{and_i, and_l, and_r}
use Rattle.exact.proofs.Cases.{by_equal}
use Rattle.definitions.specs.Numbers.{◌⊕◌, finite, add_in_range, sum, sum_in_range}
use Rattle.rounding.specs.Good.{Good}
use Rattle.rounding.proofs.Laws.{sum-good}
use Rattle.rounding.proofs.Finite.{sum-finite}

in_range_is : (x y : Float) → add_in_range x y ≡ finite (x ⊕ y)
unfolding add_in_range
in_range_is x y = refl

module _ (start : Float) (f : ℕ → Float) (k : ℕ) where
  range_step : (m : ℕ) → sum_in_range start f k (suc m) ≡ (sum_in_range start f k m && add_in_range (sum start f k m) (f (k + m)))
  unfolding sum_in_range
  range_step m = refl

  pub range_before : (m : ℕ) → T (sum_in_range start f k (suc m)) → T (sum_in_range start f k m)
  range_before m t = and_l (sum_in_range start f k m) (add_in_range (sum start f k m) (f (k + m))) (rw (range_step m) at t)

  pub range_last : (m : ℕ) → T (sum_in_range start f k (suc m)) → T (add_in_range (sum start f k m) (f (k + m)))
  range_last m t = and_r (sum_in_range start f k m) (add_in_range (sum start f k m) (f (k + m))) (rw (range_step m) at t)

  -- A finite total has every addition in range, whatever the terms are; its start and its terms are finite.
  pub total_in_range : (m : ℕ) → T (finite (sum start f k m)) → T (sum_in_range start f k m)
  unfolding sum_in_range sum
  total_in_range zero t = tt
  total_in_range (suc m) t =
      and_i (sum_in_range start f k m) (add_in_range (sum start f k m) (f (k + m))) (total_in_range m (sum-finite (sum start f k m) (f (k + m)) t).0) (rw (in_range_is (sum start f k m) (f (k + m))) t)

  pub start-finite : (m : ℕ) → T (finite (sum start f k m)) → T (finite start)
  unfolding sum
  start-finite zero t = t
  start-finite (suc m) t = start-finite m (sum-finite (sum start f k m) (f (k + m)) t).0

  pub term-finite : (m j : ℕ) → T (finite (sum start f k m)) → k ≤ j → j < k + m → T (finite (f j))
  unfolding sum
  term-finite zero j t l h = absurd (omega arith)
  term-finite (suc m) j t l h =
      let s = sum-finite (sum start f k m) (f (k + m)) t in
      by_equal j (k + m) (λ e. rw e s.1) (λ n. term-finite m j s.0 l (omega arith))

  pub total-finite : T (finite start) → (m : ℕ) → T (sum_in_range start f k m) → T (finite (sum start f k m))
  unfolding sum
  total-finite s zero t = s
  total-finite s (suc m) t = rw (in_range_is (sum start f k m) (f (k + m))) at (range_last m t)

  module _ (g : Good start) where
    pub sum_is_good : (m : ℕ) → ((i : ℕ) → k ≤ i → i < k + m → Good (f i)) → T (sum_in_range start f k m) → Good (sum start f k m)
    unfolding sum
    sum_is_good zero h t = g
    sum_is_good (suc m) h t = sum-good (sum_is_good m (λ i l u. h i l (omega arith)) (range_before m t)) (h (k + m) (omega arith) (omega arith)) (range_last m t)
