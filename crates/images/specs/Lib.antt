pub mod Emission
pub mod Blocks
pub mod Images
