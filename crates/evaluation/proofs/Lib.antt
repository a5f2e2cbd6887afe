pub mod LeafLaws
pub mod TableLaws
pub mod EvaluateLaws
