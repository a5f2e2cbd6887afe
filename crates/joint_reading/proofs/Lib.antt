pub mod ScanLaws
pub mod JoinLaws
