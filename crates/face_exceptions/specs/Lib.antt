-- What a program in C is given for exception lists.
pub mod Lists
