-- Deciding what comes of a request about a token.
pub mod Attempting
pub mod Deciding
