pub mod Bounds
pub mod Fours
