pub mod Understanding
