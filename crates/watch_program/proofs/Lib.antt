pub mod EventLaws
pub mod RulingLaws
pub mod StepLaws
pub mod Told
