pub mod Spans
pub mod Answer
pub mod Steps
pub mod Claims
