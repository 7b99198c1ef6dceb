pub mod Counts
pub mod Inner
pub mod Nodes
pub mod Parts
pub mod View
