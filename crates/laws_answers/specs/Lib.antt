-- What the laws of answers are told in: relations that only proofs need.
pub mod Walks
pub mod Answers
