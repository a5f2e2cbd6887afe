pub mod HeadingLaws
pub mod MaskLaws
pub mod ScanLaws
pub mod LoopLaws
pub mod RecordingLaws
pub mod ReadLaws
