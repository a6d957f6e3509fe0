pub mod Square
