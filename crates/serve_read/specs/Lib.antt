pub mod Understood
pub mod Requests
pub mod Readings
