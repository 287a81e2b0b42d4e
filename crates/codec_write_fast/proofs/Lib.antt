pub mod TerseLaws
