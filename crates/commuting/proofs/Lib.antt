mod Moves
mod LargerSheet
mod LargerTable
mod LargerPrices
pub mod Commuting
pub mod TwoMoves
pub mod CommutingExamples
