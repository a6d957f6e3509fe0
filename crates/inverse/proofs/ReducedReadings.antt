-- The rule of each reading: its row form and its regularity put into the reduction.
use Prim.Native.Nat.{◌+◌, ◌*◌}
use mathlib.Core.Path.{ap₂}
use Rattle.exact.proofs.Sums.{sum_cong}
use Rattle.exact.specs.Sums.{sum}
use Rattle.exact.specs.Systems.{diag}
use Rattle.definitions.specs.Matrix.{matrix}
use Rattle.rounding.specs.Good.{one·units}
use Rattle.inverse.specs.Reduction.{Reduction, SystemInverse}
use Rattle.inverse.specs.ExactRatios.{H}
use Rattle.inverse.specs.RowForms.{MarginsRows}
use Rattle.inverse.specs.ExactScaled.{MarginsRegular}
use Rattle.inverse.specs.ReducedReadings.{LeavingRatesInverse, MarginsReduced}
use Rattle.inverse.proofs.Reduction.{reduction, system_inverse}
use Rattle.inverse.proofs.RowForms.{margins_rows}
use Rattle.inverse.proofs.ExactScaled.{margins_regular}

pub leaving_rates_inverse : LeavingRatesInverse
unfolding LeavingRatesInverse SystemInverse diag
leaving_rates_inverse n on A S t s x u Z z positive sizes rows exits =
    system_inverse n on A S t x (λ i. s i * u + sum (λ j. t i j * x j) 0 n) (λ i. one·units) Z z positive sizes rows
    (λ i o. ap₂ (λ x y. x + y) (exits i o) (sum_cong (S i).size (λ j. t i j * x j) 0 n (λ j l. sizes i j)))

pub margins_reduced : MarginsReduced
unfolding MarginsReduced Reduction MarginsRows MarginsRegular
margins_reduced n E sheet x t d D K Z z h r columns table =
    reduction n E (matrix 2 n sheet) x
    (λ i. d i * D + H n t D K i + t i i * D) (λ i j. t i j * D) (λ i. one·units * D) Z z
    (margins_rows n sheet t d D K h r) columns (margins_regular n t d D K r) table
