pub mod WordLaws
pub mod MaskLaws
pub mod NumberLaws
pub mod HeldLaws
pub mod CheckLaws
