pub mod LayLaws
pub mod LeftLaws
