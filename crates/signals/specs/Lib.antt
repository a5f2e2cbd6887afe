pub mod Places
pub mod Laying
pub mod Scanning
pub mod Writing
