pub mod Listing
pub mod Compact
