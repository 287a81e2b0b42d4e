pub mod Shortly
pub mod Listed
