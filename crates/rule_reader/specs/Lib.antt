pub mod NextLines
pub mod Reading
