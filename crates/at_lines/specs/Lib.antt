pub mod Lines
pub mod Measured
