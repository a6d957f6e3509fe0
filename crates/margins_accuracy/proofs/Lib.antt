mod MarginsCounts
mod MarginsEntries
mod MarginsExact
mod MarginsJoins
mod MarginsKept
pub mod MarginsRange
mod MarginsRatios
mod MarginsStart
mod MarginsSums
pub mod MarginsAccuracy
