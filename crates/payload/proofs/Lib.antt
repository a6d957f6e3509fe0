pub mod FileWords
