pub mod Same
pub mod View
pub mod Built
pub mod LeavingInTwo
