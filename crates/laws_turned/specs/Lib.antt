-- What is upstream of a vertex.
pub mod Upstream
