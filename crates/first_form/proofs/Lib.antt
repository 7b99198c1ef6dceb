pub mod Bounds
pub mod Searches
pub mod Each
pub mod Kept
pub mod InFile
