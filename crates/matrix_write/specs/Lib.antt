-- What a text is written from, and what the call answers and leaves.
pub mod Fit
pub mod Written
