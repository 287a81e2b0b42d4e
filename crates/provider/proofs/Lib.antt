-- Replies, and the room that they take.
pub mod Replies
pub mod Room
