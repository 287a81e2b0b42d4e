pub mod Right
pub mod Kept
pub mod Hearers
pub mod Rooms
