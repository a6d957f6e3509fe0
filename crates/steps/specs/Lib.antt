pub mod Trapped
pub mod ColumnOfTable
pub mod AnyUnit
