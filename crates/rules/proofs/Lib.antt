pub mod KindLaws
pub mod ChoiceLaws
pub mod NodeLists
pub mod RefusalLaws
pub mod FitLaws
pub mod TableLaws
