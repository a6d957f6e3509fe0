-- Tables and vectors as functions, and the invariants of loops over them.
pub mod Operators
mod RowMajor
pub mod Vectors
pub mod Loops
pub mod Rows
