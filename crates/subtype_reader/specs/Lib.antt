pub mod Constraints
pub mod Reaches
pub mod Written
