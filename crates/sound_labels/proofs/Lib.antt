-- Laws for the tests of labellings: the tests of one and of all put together.
pub mod Labels
pub mod Labellings
