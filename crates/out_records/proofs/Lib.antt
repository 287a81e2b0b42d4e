pub mod Laying
pub mod Saying
pub mod Telling
pub mod Wire
