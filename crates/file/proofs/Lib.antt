pub mod Areas
pub mod Reading
mod SaveAnswers
