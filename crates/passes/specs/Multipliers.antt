-- What the steps that serve every column leave in the table of sizes, over `at`, the systems as the stages begin.
use Rattle.std.specs.Prelude.{◌≡◌, ℕ, ◌<◌, Float}
use Rattle.definitions.specs.LeavingRates.{Weights, System, p, m↓, m↑}

-- A table as a system with weights w: the sizes t_ij off the diagonal, and s_i on it.
abbrev pub system_in : Weights → (ℕ → ℕ → Float) → System
system_in w f = record { t = f; s = λ i. f i i; z = w }

-- The pivots on the diagonal, and at place (i, k) the multiplier of row i at stage k.
pub record Multipliers (r : ℕ) (at : ℕ → System) (f : ℕ → ℕ → Float) : Type 0 where
  pub pivots : (i : ℕ) → i < r → f i i ≡ p r at i
  pub below : (k i : ℕ) → k < i → i < r → f i k ≡ m↓ r at k i
  pub above : (k i : ℕ) → i < k → k < r → f i k ≡ m↑ r at k i
