-- Accuracy of the steps for margins (document 01, demand 3, reading 2): the exact inverse, and each entry of the table against it.
use Rattle.std.specs.Prelude.{ℕ, ◌+◌, ◌*◌, ◌<◌, ◌≢◌, T, Float}
use Rattle.definitions.specs.Numbers.{units}
use Rattle.definitions.specs.Matrix.{every_stage}
use Rattle.definitions.specs.Margins.{entry, margins_in_range}
use Rattle.rounding.specs.Good.{Good, one·units}
use Rattle.inverse.specs.Reduction.{Columns, NearTable}
use Rattle.inverse.specs.ExactRatios.{H, ExactRatios}

-- Good sizes off the diagonal, and good margins.
pub record GoodMargins (n : ℕ) (t : ℕ → ℕ → Float) (d : ℕ → Float) : Type 0 where
  pub size : (i j : ℕ) → i < n → j < n → i ≢ j → Good (t i j)
  pub margin : (i : ℕ) → i < n → Good (d i)

-- The same numbers in units of 2^-1074.
abbrev pub sizes_in_units : (ℕ → ℕ → Float) → ℕ → ℕ → ℕ
sizes_in_units t i j = units (t i j)

abbrev pub margins_in_units : (ℕ → Float) → ℕ → ℕ
margins_in_units d i = units (d i)

-- The inverse of the matrix that the ratios K_j / D give, column by column, and the table within E roundings of it.
pub record MarginsInverse (E n : ℕ) (t : ℕ → ℕ → Float) (d : ℕ → Float) (D : ℕ) (K : ℕ → ℕ) : Type 0 where
  pub Z : ℕ → ℕ
  pub z : ℕ → ℕ → ℕ
  pub columns :
      Columns n every_stage (λ i. units (d i) * D + H n (sizes_in_units t) D K i + units (t i i) * D) (λ i j. units (t i j) * D)
      (λ i. one·units * D) Z z
  pub table : NearTable n E (entry n t d) Z z

-- Theorem: if every step is in range, each entry is within 12n³ roundings.
unfoldable pub MarginsAccuracy : Type 0
MarginsAccuracy =
    (n : ℕ) (t : ℕ → ℕ → Float) (d : ℕ → Float) (D : ℕ) (K : ℕ → ℕ) → GoodMargins n t d → T (margins_in_range n t d)
    → ExactRatios n (sizes_in_units t) (margins_in_units d) D K
    → MarginsInverse (12 * (n * n * n)) n t d D K
