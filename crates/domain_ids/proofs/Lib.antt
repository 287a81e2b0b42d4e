pub mod Circle
pub mod Dealing
pub mod Refusals
pub mod Spaced
