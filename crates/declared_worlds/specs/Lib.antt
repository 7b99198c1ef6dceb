pub mod Stated
pub mod Plain
