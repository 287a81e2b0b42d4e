pub mod OneStruct
