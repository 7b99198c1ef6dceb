pub mod Reader
pub mod Sorts
