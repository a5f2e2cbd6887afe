pub mod Fields
pub mod Forms
