pub mod SpanLaws
pub mod Laying
pub mod StepLaws
pub mod RoomLaws
pub mod RightLaws
pub mod ResultLaws
