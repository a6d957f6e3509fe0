pub mod Value
mod Grid
pub mod Round
mod Compare
mod Operations
pub mod Laws
pub mod Order
pub mod Reversed
pub mod Finite
pub mod RoundedSums
pub mod Zeros
pub mod AnyNumbers
pub mod ProductRange
pub mod ResultRange
pub mod Words
pub mod Powers
pub mod Scaling
pub mod TimesPower
pub mod SizeWithin
