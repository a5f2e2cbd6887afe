pub mod Finding
pub mod Laying
pub mod Accepted
pub mod Answers
