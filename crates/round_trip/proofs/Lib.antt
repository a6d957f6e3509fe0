mod Bytes
mod RecordBytes
mod Loading
mod SavingAgain
mod NumberWords
pub mod RoundTrip
