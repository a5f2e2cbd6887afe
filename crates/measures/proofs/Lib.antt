pub mod SignLaws
pub mod MeasureLaws
