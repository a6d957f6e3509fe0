pub mod Multiples
mod RowTests
pub mod PassTests
