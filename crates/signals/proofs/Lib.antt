pub mod FilledLaws
pub mod LayingLaws
pub mod ScanningLaws
pub mod WritingLaws
