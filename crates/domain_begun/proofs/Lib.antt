pub mod Begun
pub mod Heard
