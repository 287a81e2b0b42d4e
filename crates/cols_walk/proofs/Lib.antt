-- runs of places looked at together
pub mod Widths
