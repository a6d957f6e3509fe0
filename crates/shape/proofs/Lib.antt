pub mod Square
pub mod ShapeQuestions
