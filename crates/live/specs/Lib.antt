pub mod LivePacked
