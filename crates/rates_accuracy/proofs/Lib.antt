pub mod OperationErrors
pub mod PivotErrors
pub mod LeavingRatesRange
pub mod LeavingRatesStages
mod LeavingRatesColumn
pub mod LeavingRatesUpward
pub mod LeavingRatesAccuracy
pub mod Pivots
pub mod Input
pub mod CompactEquations
pub mod LiveSystem
