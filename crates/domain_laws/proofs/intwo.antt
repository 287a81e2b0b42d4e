pub mod Sweeps
pub mod Tables
pub mod Reports
