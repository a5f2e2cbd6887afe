pub mod LineLaws
pub mod ValuesLaws
pub mod ScanLaws
