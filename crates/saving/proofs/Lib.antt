pub mod FileBytes
pub mod SheetWords
