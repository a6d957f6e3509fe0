pub mod LiveSteps
