pub mod EmitLaws
pub mod LayLaws
pub mod ImageLaws
