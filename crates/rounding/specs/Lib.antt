pub mod Good
pub mod Laws
pub mod ResultRange
pub mod Scaling
