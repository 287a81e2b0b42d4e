pub mod Stays
pub mod Turns
pub mod Answers
pub mod Sweeping
pub mod Standing
