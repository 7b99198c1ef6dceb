pub mod Chunks
pub mod formers
