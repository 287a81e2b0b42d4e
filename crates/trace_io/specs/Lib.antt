pub mod Input
pub mod Lines
pub mod Hexadecimal
pub mod Waiting
