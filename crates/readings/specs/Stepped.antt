-- What the steps of a reading promise of a working table (document 01, question 10 and the two sections of steps; document 02, U3 and U10).
use Rattle.std.specs.Prelude.{◌≡◌, ℕ, ◌<◌, Bool, List, T, Float}
use Rattle.definitions.specs.Table.{entry, every_step_in_range}
use Rattle.tables.specs.RowMajor.{IsTable, table}

-- Whether every step is in range; where it is, the sheet's table in the n × n places.
pub record Stepped (reading n : ℕ) (sheet : List Float) (ok : Bool) (xs : List Float) : Type 0 where
  pub range : ok ≡ every_step_in_range reading n sheet
  pub entries : T ok → (i j : ℕ) → i < n → j < n → table xs i j ≡ entry reading n sheet i j
  pub long : IsTable xs
