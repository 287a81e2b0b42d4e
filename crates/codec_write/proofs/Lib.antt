pub mod PutLaws
pub mod LayLaws
pub mod FieldLaws
pub mod TailLaws
pub mod MessageLaws
