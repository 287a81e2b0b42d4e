pub mod Frames
pub mod Sent
