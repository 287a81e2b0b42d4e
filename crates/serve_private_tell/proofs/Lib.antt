-- lists of users
pub mod Sieving
-- what each connection hears of them
pub mod Hearing
pub mod Telling
