-- Tests and lists.
pub mod Tests
pub mod Lists
pub mod Positions
pub mod Passed
pub mod Every
pub mod Parts
pub mod Joined
pub mod Rising
pub mod Halving
-- Reachability, groups, names, levels.
pub mod Edges
pub mod Reaches
pub mod Names
pub mod Levels
pub mod Grouped
pub mod Condensed
pub mod Paths
-- Traversals.
pub mod Traversal
pub mod Visited
pub mod Closed
pub mod Ranks
-- Groups by one traversal.
pub mod EdgeRows
pub mod Stages
pub mod Folded
pub mod OnePass
-- Labels: the labelling under an order, and the order for a labelling.
pub mod Forests
pub mod Fitted
pub mod Walks
pub mod Inverse
pub mod Outer
pub mod Orders
pub mod Labelled
pub mod Replay
pub mod OrderFound
-- Sound exactly where made.
pub mod GraphFound
pub mod Decides
pub mod Sound
pub mod Depends
-- Rows laid out with their starts.
pub mod Laid
pub mod Starts
-- The checks of a call.
pub mod Checks
