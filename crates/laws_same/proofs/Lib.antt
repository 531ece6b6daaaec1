-- Shuffled, repeated and looped edge lists have the same edges; the same edges make groups and children agree; these give the same names and children,
-- and so the same index, whose children are the child groups.
pub mod Lists
pub mod Edges
pub mod Names
pub mod Lineage
pub mod Children
