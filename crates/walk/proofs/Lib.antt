pub mod StepLaws
pub mod TakenLaws
pub mod WantedLaws
pub mod WalkLaws
