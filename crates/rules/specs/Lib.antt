pub mod Handed
pub mod Kinds
pub mod Meaning
pub mod Fits
pub mod Refusals
pub mod Answers
