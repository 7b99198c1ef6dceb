pub mod Ordering
pub mod Indexing
pub mod Walked
pub mod Sampled
