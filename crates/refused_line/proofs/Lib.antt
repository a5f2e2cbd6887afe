pub mod NumberLaws
pub mod FindLaws
