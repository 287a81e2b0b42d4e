pub mod Windows
pub mod Claims
pub mod Stands
