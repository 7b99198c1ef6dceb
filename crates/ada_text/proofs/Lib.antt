pub mod Capped
pub mod Reading
pub mod Letters
pub mod Marks
