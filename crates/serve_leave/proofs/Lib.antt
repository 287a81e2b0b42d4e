pub mod SettleLaws
-- those listed
pub mod LeaverLaws
-- the two loops that list them
pub mod Picking
pub mod Gathering
