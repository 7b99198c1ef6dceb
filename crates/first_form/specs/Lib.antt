pub mod Names
pub mod Form
pub mod Places
pub mod Spelled
pub mod Tree
