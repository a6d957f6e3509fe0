pub mod Told
pub mod Weights
pub mod Multipliers
pub mod Stages
pub mod StageTests
pub mod RowPass
