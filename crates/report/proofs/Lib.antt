pub mod ReportLaws
pub mod TableLaws
pub mod ReadTableLaws
pub mod RecordingAccepted
