pub mod Rounds
pub mod Parts
pub mod Quiet
pub mod Marking
pub mod Least
