pub mod same
pub mod intwo
pub mod restored
