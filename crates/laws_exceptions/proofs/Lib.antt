-- What containment and exceptions are; ranks of what is contained; the two kinds; the question by the lists; the entries of a list; all rows; bytes that
-- are those of given numbers.
pub mod Exceptions
pub mod Ranks
pub mod Direct
pub mod Says
pub mod Entries
pub mod Through
pub mod Rows
pub mod Found
