pub mod Records
pub mod Out
