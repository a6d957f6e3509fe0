mod FilledRows
pub mod AcceptedArea
