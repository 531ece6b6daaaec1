-- What the laws are told in: relations that only proofs need.
pub mod Rising
pub mod Leads
pub mod Visits
pub mod EdgeRows
pub mod OnePass
pub mod Sound
pub mod Laid
pub mod Checks
