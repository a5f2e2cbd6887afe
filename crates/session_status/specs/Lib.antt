pub mod Status
pub mod Spaces
