pub mod RoundTrips
pub mod SameVerdicts
pub mod SameEvidence
pub mod EarlyVerdicts
pub mod SpaceParts
pub mod SessionRuns
pub mod ArchiveRoundTrips
