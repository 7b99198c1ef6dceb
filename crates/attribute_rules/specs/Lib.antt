pub mod Arrays
pub mod Earlier
pub mod Mappings
