pub mod Parts
pub mod Links
pub mod Rows
pub mod Fitting
pub mod Sizes
pub mod Octets
pub mod Whole
pub mod Worked
