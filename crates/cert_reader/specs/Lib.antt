pub mod Words
pub mod Phases
pub mod Entries
pub mod Answers
