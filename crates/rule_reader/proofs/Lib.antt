pub mod HeadingLaws
pub mod FormLaws
pub mod NodeLaws
pub mod LoopLaws
pub mod ReadLaws
