-- The fold as a machine.
pub mod Machine
-- Each turn in memory.
pub mod Runs
pub mod Taking
pub mod Pushed
pub mod Numbered
pub mod Holding
pub mod Framed
pub mod Leaving
pub mod Going
pub mod Ended
