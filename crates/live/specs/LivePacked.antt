-- The stages of a sheet that are not idle, packed (document 02, U3).
use Rattle.std.specs.Prelude.{◌≡◌, ℕ, ◌<◌, List, Float}
use Rattle.definitions.specs.Sheet.{takes_part}
use Rattle.definitions.specs.Table.{live_system}
use Rattle.tables.specs.RowMajor.{IsTable, table}
use Rattle.compact.specs.Listing.{Listing}

-- The list of these stages, their count r, and their system in the r × r places of a table.
pub record LivePacked (n : ℕ) (sheet : List Float) (r : ℕ) (stages : List ℕ) (xs : List Float) : Type 0 where
  pub listing : Listing (takes_part 1 n sheet) n r stages
  pub long : IsTable xs
  pub sizes : (p q : ℕ) → p < r → q < r → (p ≡ q → ⊥) → table xs p q ≡ (live_system 1 n sheet).t p q
  pub exits : (p : ℕ) → p < r → table xs p p ≡ (live_system 1 n sheet).s p
