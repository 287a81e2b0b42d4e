pub mod ShortLaws
pub mod ListLaws
pub mod Shapes
