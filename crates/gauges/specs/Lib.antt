pub mod Held
pub mod Values
pub mod Lines
pub mod Scanning
