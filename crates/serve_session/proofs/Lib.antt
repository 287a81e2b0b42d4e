pub mod Limiting
pub mod Heard
