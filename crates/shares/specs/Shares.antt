-- The shares d_j / a_j of the new leaving rates (document 01, "Steps for margins").
use Rattle.std.specs.Prelude.{◌≡◌, ℕ, ◌<◌, Bool, not, ◌||◌, List, ltb, Float}
use Rattle.definitions.specs.Numbers.{◌⊘◌, div_in_range, all}
use Rattle.definitions.specs.Compact.{rank}
use Rattle.tables.specs.Vectors.{IsVector, vector}

-- The shares d_j / a_j of the stages below m, of which those above a kept stage are tested.
pub record Shares (kept : ℕ → Bool) (d a : ℕ → Float) (m : ℕ) (ok : Bool) (ws : List Float) : Type 0 where
  pub long : IsVector ws
  pub range : ok ≡ all (λ j. not (ltb 0 (rank kept j)) || div_in_range (d j) (a j)) 0 m
  pub are : (j : ℕ) → j < m → vector ws j ≡ d j ⊘ a j
