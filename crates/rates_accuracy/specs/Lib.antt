pub mod LeavingRatesAccuracy
pub mod Pivots
