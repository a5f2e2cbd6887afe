pub mod Numbering
pub mod Finding
