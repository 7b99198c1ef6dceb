pub mod Causes
pub mod Doubles
pub mod Maps
pub mod Pieces
pub mod Decisions
