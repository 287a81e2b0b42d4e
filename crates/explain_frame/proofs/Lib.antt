pub mod FrameLaws
pub mod SentLaws
