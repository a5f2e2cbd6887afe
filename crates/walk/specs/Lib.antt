pub mod Steps
pub mod Wanted
pub mod Walking
