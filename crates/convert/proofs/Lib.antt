-- What a conversion writes, where its checks stop, and what it keeps.
pub mod Written
pub mod Fitted
pub mod Refusals
pub mod Same
pub mod Monday
pub mod Theorems
pub mod Finished
