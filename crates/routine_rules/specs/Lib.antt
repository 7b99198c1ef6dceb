pub mod Marks
pub mod Standing
