mod ColumnSteps
pub mod JoinedPlaces
