pub mod Whole
pub mod Granted
