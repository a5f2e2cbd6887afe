pub mod PrintLaws
pub mod LineLaws
pub mod LinedLaws
