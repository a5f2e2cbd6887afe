pub mod SplitLaws
pub mod AskedLaws
