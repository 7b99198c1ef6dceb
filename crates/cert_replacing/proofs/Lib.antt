pub mod Formulas
pub mod Swaps
