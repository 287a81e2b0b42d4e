-- The laws of the two loops over the places that are looked at together.
pub mod Looked
pub mod Summed
