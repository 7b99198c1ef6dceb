pub mod Straight
pub mod SetsFirst
