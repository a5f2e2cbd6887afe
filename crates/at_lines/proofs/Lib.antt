pub mod StateLaws
pub mod MeasuredLaws
