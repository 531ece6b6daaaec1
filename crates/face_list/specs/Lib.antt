-- What a program in C is given for a chain.
pub mod Chained
