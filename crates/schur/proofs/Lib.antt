pub mod SchurRows
