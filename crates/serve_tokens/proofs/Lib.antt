pub mod Settling
pub mod Inquiring
pub mod Doing
