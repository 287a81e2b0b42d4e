pub mod Letters
pub mod Words
pub mod FieldNames
pub mod Claims
