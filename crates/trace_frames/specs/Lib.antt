pub mod Frames
pub mod Claims
pub mod Good
pub mod Fault
