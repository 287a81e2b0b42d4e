pub mod StoreLaws
pub mod ChannelLaws
pub mod ListedFates
