pub mod SessionLines
pub mod OpeningLaws
