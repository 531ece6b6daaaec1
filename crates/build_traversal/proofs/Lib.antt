-- The rows and the frames of any traversal.
pub mod Reach
pub mod Tasks
pub mod Depth
pub mod Fresh
pub mod Regions
pub mod Frames
-- The traversal with its labels, as a machine and as a fold.
pub mod Machine
pub mod Labels
-- In memory.
pub mod Going
pub mod Ended
