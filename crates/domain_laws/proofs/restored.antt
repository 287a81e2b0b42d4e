pub mod Listing
pub mod Again
pub mod Restored
pub mod Ascending
pub mod Taken
