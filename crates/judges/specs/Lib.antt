pub mod Verdicts
pub mod Whole
pub mod Local
