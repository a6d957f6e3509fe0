pub mod MarginsAccuracy
