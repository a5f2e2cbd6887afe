pub mod FindLaws
pub mod LayLaws
pub mod AcceptedLaws
pub mod EvidenceLaws
