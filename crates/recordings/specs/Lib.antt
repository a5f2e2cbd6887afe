pub mod Heading
pub mod Unions
pub mod Held
pub mod Joining
pub mod Turns
