pub mod Held
pub mod Numbered
