-- What a program in C is given for an added edge.
pub mod Taken
