pub mod Pasting
pub mod Growing
