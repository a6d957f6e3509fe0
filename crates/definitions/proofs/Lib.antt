pub mod Computing
pub mod Starred
pub mod PivotExamples
pub mod ExactExamples
pub mod FileExamples
pub mod ColumnExamples
pub mod PriceExamples
pub mod MovingExamples
