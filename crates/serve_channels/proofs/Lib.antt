-- AUrq and CJrq by cases
pub mod Entering
-- CLrq
pub mod Parting
