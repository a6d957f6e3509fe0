-- The exact matrices of the readings, row by row in whole numbers.
use Rattle.std.specs.Prelude.{◌≡◌, ◌≢◌, List, ℕ, ◌+◌, ◌*◌, ◌<◌, Float}
use Rattle.exact.specs.Sums.{sum}
use Rattle.definitions.specs.Numbers.{units}
use Rattle.definitions.specs.Fractions.{Fraction}
use Rattle.definitions.specs.Sheet.{size, diagonal, weight}
use Rattle.definitions.specs.Matrix.{matrix}
use Rattle.rounding.specs.Good.{Good, one·units}
use Rattle.inverse.specs.Reduction.{RowForm}
use Rattle.inverse.specs.ExactRatios.{H, ExactRatios}

-- A sheet in units of 2^-1074: the sizes t_ij off the diagonal, with any t_ii, and the diagonal's parameters d_i.
pub record InUnits (n : ℕ) (sheet : List Float) (t : ℕ → ℕ → ℕ) (d : ℕ → ℕ) : Type 0 where
  pub size-good : (i j : ℕ) → i < n → j < n → i ≢ j → Good (size n sheet i j)
  pub size-units : (i j : ℕ) → i < n → j < n → i ≢ j → units (size n sheet i j) ≡ t i j
  pub diagonal-good : (i : ℕ) → i < n → Good (diagonal n sheet i)
  pub diagonal-units : (i : ℕ) → i < n → units (diagonal n sheet i) ≡ d i

-- Rows with weights x_j, where u brings an s_i to the units of a t_ij x_j: a_ii x_i is s_i plus all t_ij x_j. With t_ii on both sides
-- nothing is left out of the sum.
abbrev pub WeightedForm : ℕ → (ℕ → ℕ → Fraction) → (ℕ → ℕ → ℕ) → (ℕ → ℕ) → (ℕ → ℕ) → ℕ → Type 0
WeightedForm n A t s x u = RowForm n A (λ i. s i * u + sum (λ j. t i j * x j) 0 n) (λ i j. t i j * x i) (λ i. one·units * x i)

-- Theorem, reading 1: "the exact a_ii is s_i plus all t_ij of the row", so all weights are 1.
unfoldable pub LeavingRatesRows : Type 0
LeavingRatesRows =
    (n : ℕ) (sheet : List Float) (t : ℕ → ℕ → ℕ) (s : ℕ → ℕ)
    → InUnits n sheet t s
    → WeightedForm n (matrix 1 n sheet) t s (λ j. 1) 1

-- Theorem, reading 3: "the exact a_ii is s_i plus all t_ij·z_j, divided by z_i" (document 02, U10).
unfoldable pub WeightedRows : Type 0
WeightedRows =
    (n : ℕ) (sheet : List Float) (t : ℕ → ℕ → ℕ) (s : ℕ → ℕ)
    → InUnits n sheet t s
    → ((j : ℕ) → j < n → Good (weight n sheet j))
    → ((j : ℕ) → j < n → 0 < units (weight n sheet j))
    → WeightedForm n (matrix 3 n sheet) t s (λ j. units (weight n sheet j)) one·units

-- Theorem, reading 2: a_ii = d_i + h_i.
unfoldable pub MarginsRows : Type 0
MarginsRows =
    (n : ℕ) (sheet : List Float) (t : ℕ → ℕ → ℕ) (d : ℕ → ℕ) (D : ℕ) (K : ℕ → ℕ)
    → InUnits n sheet t d
    → ExactRatios n t d D K
    → RowForm n (matrix 2 n sheet) (λ i. d i * D + H n t D K i + t i i * D) (λ i j. t i j * D) (λ i. one·units * D)
