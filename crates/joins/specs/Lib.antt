pub mod StageJoin
pub mod Joins
