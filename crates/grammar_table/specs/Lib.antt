pub mod Productions
pub mod Parses
pub mod Levels
pub mod Answers
pub mod Choices
pub mod Runs
