pub mod UserLaws
pub mod TokenLaws
pub mod Marking
pub mod ChannelSweeps
pub mod OneMore
pub mod OneStruct
