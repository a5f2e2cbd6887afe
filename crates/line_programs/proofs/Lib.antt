pub mod PrintLaws
pub mod TypedLaws
pub mod LongestLaws
