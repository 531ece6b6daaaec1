-- When two edge lists are the same lineage, and what may differ between them then.
pub mod Same
