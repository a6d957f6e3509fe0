-- Range tests that look at fewer numbers than document 01: what such a test promises.
use Rattle.std.specs.Prelude.{ℕ, ◌<◌, Bool, T, Float}
use Rattle.definitions.specs.Numbers.{finite}

-- ok is true where the document's test is, and where the results named by F are finite it is true nowhere else.
pub record Told (ok test : Bool) (F : Type 0) : Type 0 where
  pub passes : T test → T ok
  pub tells : F → T ok → T test

-- The first c numbers of a row, and the r × r places of a table, are finite.
abbrev pub FiniteRow : ℕ → (ℕ → Float) → Type 0
FiniteRow c own = (j : ℕ) → j < c → T (finite (own j))

abbrev pub FiniteTable : ℕ → (ℕ → ℕ → Float) → Type 0
FiniteTable r f = (i : ℕ) → i < r → FiniteRow r (f i)
