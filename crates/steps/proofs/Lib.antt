pub mod TableLaws
pub mod LeavingRatesSteps
pub mod Weights
pub mod Pivot
pub mod Same
pub mod Sizes
pub mod All
pub mod Gathering
pub mod FloatSums
pub mod AddProduct
pub mod CompactOrder
pub mod LiveStages
pub mod MarginsSteps
pub mod QuestionLaws
pub mod AcceptedCalls
pub mod Searches
pub mod Trapped
pub mod ZeroColumn
pub mod Filling
mod ColumnOfTable
mod AnyUnit
