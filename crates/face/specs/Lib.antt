-- What a program in C is given.
pub mod Host
