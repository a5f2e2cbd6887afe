pub mod Signs
pub mod Tokens
pub mod Scanning
pub mod Tallies
