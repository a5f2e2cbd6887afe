pub mod PackedLaws
pub mod RowLaws
pub mod StoredLaws
pub mod PairLaws
