pub mod LengthLaws
pub mod FieldEnds
pub mod TailSizes
pub mod MessageSizes
