-- What the tests tell; the steps that serve every column; the steps on b, row by row.
pub mod Told
pub mod Weights
mod StagePlaces
mod PairRow
pub mod PairStages
pub mod SharedSteps
pub mod FiniteStages
pub mod RowPass
pub mod ColumnPasses
-- Laws for other engines on the same steps: sizes that are zero.
pub mod ZeroMultiplier
