-- The way back to the kept stages (document 01, "Steps for margins": x_ij = k_i·y_ij).
use Rattle.std.specs.Prelude.{◌≡◌, ℕ, Bool, List, Float}
use Rattle.definitions.specs.Numbers.{◌⊗◌, all}
use Rattle.tables.specs.RowMajor.{Holds}
use Rattle.tables.specs.Operators.{between}
use Rattle.tables.specs.Rows.{times_in_range}
use Rattle.compact.specs.Listing.{stage_at}

-- m times a row.
unfoldable pub multiple : Float → (ℕ → Float) → ℕ → Float
multiple m row q = m ⊗ row q

-- The r rows of a table y, each times k of its stage, and whether these steps are in range.
pub record WayBack (r : ℕ) (stages : List ℕ) (k : ℕ → Float) (y : ℕ → ℕ → Float) (ok : Bool) (xs : List Float) : Type 0 where
  pub range : ok ≡ all (λ p. all (times_in_range (k (stage_at stages p)) (y p)) 0 r) 0 r
  pub holds : Holds xs (between 0 r (λ p. between 0 r (multiple (k (stage_at stages p)) (y p)) (y p)) y)
