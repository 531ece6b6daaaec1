-- What a program in C may rely on.
pub mod Theorems
