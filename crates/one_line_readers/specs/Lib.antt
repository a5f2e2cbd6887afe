pub mod Nodes
pub mod Laying
pub mod Reading
