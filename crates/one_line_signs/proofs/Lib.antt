pub mod SignLaws
pub mod TokenLaws
pub mod ScanLaws
pub mod TallyLaws
