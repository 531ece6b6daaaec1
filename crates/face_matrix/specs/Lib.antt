-- What a program in C is given for a Matrix Market text.
pub mod Matrix
