pub mod WordLaws
pub mod FieldLaws
