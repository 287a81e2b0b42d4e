pub mod Traces
pub mod Conforming
pub mod Judge
pub mod Room
pub mod Claims
pub mod Wished
pub mod Whole
pub mod Example
