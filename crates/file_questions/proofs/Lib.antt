pub mod HeadAndRecords
pub mod Judging
