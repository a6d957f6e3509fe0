pub mod MoveCalls
