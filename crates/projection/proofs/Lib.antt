pub mod LengthLaws
pub mod PassLaws
pub mod PlaceLaws
pub mod ProjectLaws
pub mod StateLaws
