pub mod HolderLaws
pub mod Changing
