pub mod PenLaws
pub mod WriteLaws
