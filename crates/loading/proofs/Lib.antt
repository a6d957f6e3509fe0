mod LoadedRows
pub mod LoadedSheet
