pub mod Counts
pub mod Marking
