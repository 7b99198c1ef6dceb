pub mod Broken
pub mod Declared
