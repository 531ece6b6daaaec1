-- The walk over any net; the net of a sound index; the answers; and last the theorems that the demands ask for.
pub mod Tries
pub mod Through
pub mod Fewer
pub mod Marks
pub mod Walked
pub mod Agree
pub mod Members
pub mod Labellings
pub mod Nets
pub mod Intervals
pub mod Rules
pub mod Answers
pub mod MoreOrders
pub mod Built
pub mod Downstream
pub mod Demands
