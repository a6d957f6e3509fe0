mod Integers
pub mod PartialSums
mod SignedFractions
pub mod Reduction
pub mod ExactRatios
pub mod ExactScaled
pub mod RowForms
pub mod ReducedReadings
pub mod NearFractions
