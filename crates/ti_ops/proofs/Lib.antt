pub mod Listed
pub mod OutboxLaws
pub mod TableLaws
pub mod StepLaws
pub mod ViewLaws
pub mod NextLaws
