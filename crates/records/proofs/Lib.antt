pub mod Little
pub mod Records
pub mod Signed
pub mod LittleBytes
pub mod RecordDue
