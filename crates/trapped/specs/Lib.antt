pub mod NextStage
