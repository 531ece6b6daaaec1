-- Laws for the tests of s, m and e: what is read of a labelling, and each test from what was read.
pub mod Read
pub mod Told
pub mod Ranks
pub mod Falls
pub mod Least
