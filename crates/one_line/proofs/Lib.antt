pub mod LineLaws
