pub mod CheckedNodes
pub mod TraceLaws
pub mod TopLaws
pub mod WholeLaws
pub mod LocalLaws
