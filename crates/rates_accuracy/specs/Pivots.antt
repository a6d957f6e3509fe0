-- "After question 9 no pivot is zero, as long as every step before it is in range" (document 01, after the questions).
use Rattle.std.specs.Prelude.{ℕ, zero, ◌*◌, ◌<◌, not, List, ◌≡◌, T, ℤ, Float}
use Rattle.definitions.specs.Numbers.{is_zero}
use Rattle.definitions.specs.LeavingRates.{none, System, downward, pivot_in_range, p, shared_before}
use Rattle.definitions.specs.Table.{live_count, live_begun}
use Rattle.definitions.specs.Questions.{pass, table_input}
use Rattle.definitions.specs.Accuracy.{Binary64}
use Rattle.rounding.specs.Good.{Good}
use Rattle.rates_accuracy.specs.LeavingRatesAccuracy.{GoodSystem, StagesGetOut}

-- The pivot of stage k is not zero, whether or not its own additions are in range; it is good where they are.
pub record PivotHolds (r : ℕ) (at : ℕ → System) (k : ℕ) : Type 0 where
  pub not-zero : T (not (is_zero (p r at k)))
  pub good : T (pivot_in_range r (at k) k) → Good (p r at k)

-- Theorem, for every system of good numbers without weights that gets out: each pivot, from the steps before it alone. (With weights the
-- division of a pivot that is out of range can come to zero.)
unfoldable pub NoPivotIsZeroInSystems : Type 0
NoPivotIsZeroInSystems =
    (r : ℕ) (start : System) → GoodSystem none zero r start → StagesGetOut none zero r start
    → (k : ℕ) → k < r → T (shared_before r (downward r start) k) → PivotHolds r (downward r start) k

-- Theorem, for the system that goes through the steps of a sheet that passes questions 1 to 9 under reading 1.
unfoldable pub NoPivotIsZero : Type 0
NoPivotIsZero =
    (n : ℕ) (e : ℤ) (sheet : List Float) → Binary64 sheet → table_input 1 n e sheet (n * n) ≡ pass
    → (k : ℕ) → k < live_count 1 n sheet → T (shared_before (live_count 1 n sheet) (live_begun 1 n sheet) k)
    → PivotHolds (live_count 1 n sheet) (live_begun 1 n sheet) k
