pub mod LineLaws
pub mod VerdictLaws
pub mod FoundLaws
pub mod BehindLaws
