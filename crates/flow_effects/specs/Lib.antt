pub mod Seen
pub mod PassedAs
pub mod Modes
pub mod OwnParts
