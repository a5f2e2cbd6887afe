pub mod OperatorLaws
pub mod WordLaws
