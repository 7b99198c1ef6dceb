pub mod Added
pub mod Declared
pub mod Answered
