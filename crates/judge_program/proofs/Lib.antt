pub mod OutputLaws
pub mod PrintedEarly
pub mod PrintedVerdicts
