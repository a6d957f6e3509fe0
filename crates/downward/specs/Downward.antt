-- The table of sizes and leaving rates after the steps that serve every column (document 01, "Steps for leaving rates").
use Rattle.std.specs.Prelude.{◌≡◌, ℕ, Bool, List, Float}
use Rattle.definitions.specs.LeavingRates.{Weights, downward, shared}
use Rattle.tables.specs.RowMajor.{IsTable, table}
use Rattle.passes.specs.Multipliers.{system_in, Multipliers}

-- The pivots, where every stage is done.
unfoldable pub on_diagonal : (ℕ → ℕ → Float) → ℕ → Float
on_diagonal f k = f k k

-- The system in f with weights w: whether its steps are in range, and the pivots and multipliers that the table has.
pub record SharedTable (w : Weights) (r : ℕ) (f : ℕ → ℕ → Float) (ok : Bool) (xs : List Float) : Type 0 where
  pub range : ok ≡ shared r (downward r (system_in w f))
  pub long : IsTable xs
  pub multipliers : Multipliers r (downward r (system_in w f)) (table xs)
