pub mod Program
pub mod Given
pub mod Rows
pub mod Formulas
pub mod Sound
