pub mod ScanLaws
pub mod PartLaws
pub mod NextLaws
pub mod LoopLaws
pub mod ToldLaws
pub mod StopLaws
