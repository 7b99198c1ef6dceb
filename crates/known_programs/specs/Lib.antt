pub mod Declared
pub mod Sample
