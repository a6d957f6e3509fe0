-- The rule of each reading from whole numbers: the one inverse of a sheet of reading 1 or 3, and a table of reading 2 near its inverse.
use Rattle.std.specs.Prelude.{Bool, List, ◌≡◌, ℕ, ◌+◌, ◌*◌, ◌<◌, Float}
use Rattle.exact.specs.Systems.{Equations, AllOut}
use Rattle.definitions.specs.Fractions.{Fraction}
use Rattle.definitions.specs.Matrix.{matrix, Stage, every_stage}
use Rattle.definitions.specs.Accuracy.{OnlyInverse}
use Rattle.rounding.specs.Good.{one·units}
use Rattle.inverse.specs.Reduction.{Apart, Columns, fraction, SystemColumns, NearTable, NearInverse}
use Rattle.inverse.specs.ExactRatios.{H, ExactRatios}
use Rattle.inverse.specs.RowForms.{InUnits, WeightedForm}

-- Theorem, readings 1 and 3, over the stages that take part: a system with the sheet's sizes times weights, and with its leaving rates at
-- these stages, gets out, and X has its solutions times the weights.
unfoldable pub LeavingRatesInverse : Type 0
LeavingRatesInverse =
    (n : ℕ) (on : ℕ → Bool) (A : ℕ → ℕ → Fraction) (S : Equations) (t : ℕ → ℕ → ℕ) (s : ℕ → ℕ) (x : ℕ → ℕ) (u : ℕ) (Z : ℕ → ℕ) (z : ℕ → ℕ → ℕ)
    → ((j : ℕ) → j < n → 0 < x j)
    → ((i j : ℕ) → (S i).size j ≡ t i j * x j)
    → WeightedForm n A t s x u
    → ((i : ℕ) → Stage n on i → (S i).exit ≡ s i * u)
    → Apart n on t
    → AllOut 0 n S
    → SystemColumns n S (λ i. one·units) Z z
    → OnlyInverse n on A (λ i j. fraction (z j i * x i) (Z j))

-- Theorem, reading 2: the table is near solutions of the rows that the ratios give.
unfoldable pub MarginsReduced : Type 0
MarginsReduced =
    (n E : ℕ) (sheet : List Float) (x : ℕ → ℕ → Float) (t : ℕ → ℕ → ℕ) (d : ℕ → ℕ) (D : ℕ) (K : ℕ → ℕ)
    (Z : ℕ → ℕ) (z : ℕ → ℕ → ℕ)
    → InUnits n sheet t d
    → ExactRatios n t d D K
    → Columns n every_stage (λ i. d i * D + H n t D K i + t i i * D) (λ i j. t i j * D) (λ i. one·units * D) Z z
    → NearTable n E x Z z
    → NearInverse n every_stage E (matrix 2 n sheet) x
