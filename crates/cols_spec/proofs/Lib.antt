-- Laws of masks and of columns, in reading order.
-- tests, numbers below n, and masks: digit by digit, masks whose elements all have a property, and their numbers one after the other
pub mod Bools
pub mod Below
pub mod Digits
pub mod Counts
pub mod Marks
pub mod Nexts
-- any table of places: a search and a loop, the nearest place that passes, the places in use, what each place holds, a table in order and what keeps it so, what each id holds, the ids listed
pub mod Places
pub mod Nearest
pub mod Busy
pub mod Rows
pub mod Table
pub mod Found
pub mod Members
pub mod Order
-- the code's answers and loops
pub mod Answers
pub mod Turns
pub mod Gaps
pub mod Sweeps
pub mod Kept
pub mod Firsts
