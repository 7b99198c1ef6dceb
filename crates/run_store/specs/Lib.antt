pub mod Entries
pub mod RunFrames
pub mod RunSlots
pub mod RunStores
pub mod Spots
