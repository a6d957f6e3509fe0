pub mod RowMajor
pub mod Vectors
pub mod Operators
pub mod Rows
