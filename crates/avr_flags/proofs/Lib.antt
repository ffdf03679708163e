pub mod StatusTables
pub mod StatusLaws
pub mod TableLaws
pub mod CarryLaws
pub mod PairLaws
