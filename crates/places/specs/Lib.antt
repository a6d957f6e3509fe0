pub mod PlaceQuestions
