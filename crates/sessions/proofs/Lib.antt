pub mod CallLaws
pub mod ArrivalLaws
pub mod OpeningLaws
pub mod QueryLaws
pub mod ReplacementLaws
pub mod WithdrawalLaws
