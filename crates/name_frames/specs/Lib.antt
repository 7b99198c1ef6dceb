pub mod Entries
pub mod Frames
pub mod Joined
pub mod Meaning
pub mod Profiles
