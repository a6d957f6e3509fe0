-- What questions 2 and 3 leave: 1 to 32 stages, and a number for each pair of them; in reading 3 a weight for each stage too.
use Rattle.std.specs.Prelude.{List, ◌≡◌, ℕ, ◌*◌, ◌≤◌, length, Float}
use Rattle.definitions.specs.Sheet.{sheet_numbers}

-- What is asked of a sheet where the weights are not looked at.
pub record Square (n : ℕ) (sheet : List Float) : Type 0 where
  pub few : n ≤ 32
  pub held : n * n ≤ length sheet

-- The whole sheet of a reading.
pub record WholeSheet (reading n : ℕ) (sheet : List Float) : Type 0 where
  pub least : 1 ≤ n
  pub few : n ≤ 32
  pub held : length sheet ≡ sheet_numbers reading n
