mod Balance
pub mod Grown
