-- who manages a channel; CCrq and CDrq by cases
pub mod Managing
-- CArq and CErq by cases
pub mod Admitting
