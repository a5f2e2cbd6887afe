pub mod Room
pub mod Scanning
pub mod Joining
