pub mod Commuting
pub mod CommutingExamples
