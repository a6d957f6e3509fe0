pub mod Bounds
mod Fours
pub mod QuickTest
