-- The table of quotients of the system in f with weights w (document 01, "Steps for leaving rates" and question 10).
use Rattle.std.specs.Prelude.{◌≡◌, ℕ, ◌<◌, Bool, List, T, Float}
use Rattle.definitions.specs.LeavingRates.{Weights, downward, quotient, in_range}
use Rattle.tables.specs.RowMajor.{IsTable, table}
use Rattle.passes.specs.Multipliers.{system_in}

-- Whether every step is in range; where it is, each of the r × r places.
pub record QuotientTable (w : Weights) (r : ℕ) (f : ℕ → ℕ → Float) (ok : Bool) (xs : List Float) : Type 0 where
  pub range : ok ≡ in_range r (downward r (system_in w f))
  pub quotients : T ok → (i j : ℕ) → i < r → j < r → table xs i j ≡ quotient r (downward r (system_in w f)) i j
  pub long : IsTable xs
