-- A sheet of n stages in a working table f (document 01, "The sheet and its two readings").
use Rattle.std.specs.Prelude.{ℕ, List, Float}
use Rattle.definitions.specs.Numbers.{◌⊖◌, 0·0}
use Rattle.definitions.specs.Sheet.{place, size, diagonal}
use Rattle.tables.specs.Operators.{replace, between}

module _ (n : ℕ) (sheet : List Float) where
  -- Row i with every sign turned, the diagonal's too.
  unfoldable pub negated : ℕ → ℕ → Float
  negated i j = 0·0 ⊖ place n sheet i j

  -- The sizes, and the leaving rates on the diagonal.
  unfoldable pub with_sizes : (ℕ → ℕ → Float) → ℕ → ℕ → Float
  with_sizes f = between 0 n (λ i. between 0 n (size n sheet i) (f i)) f

  unfoldable pub with_rates : (ℕ → ℕ → Float) → ℕ → ℕ → Float
  with_rates f = between 0 n (λ i. replace i (diagonal n sheet i) (f i)) f
