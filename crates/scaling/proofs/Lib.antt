pub mod ScaledNumbers
mod Pivot
mod LeavingRatesStages
pub mod LeavingRates
mod MarginsRatios
mod MarginsKept
pub mod Margins
