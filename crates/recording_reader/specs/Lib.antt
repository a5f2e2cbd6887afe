pub mod NextLines
pub mod Scanning
pub mod Reading
