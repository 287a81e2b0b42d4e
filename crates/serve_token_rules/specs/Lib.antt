pub mod Attempts
pub mod Deeds
