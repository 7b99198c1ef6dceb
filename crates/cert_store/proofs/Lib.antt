pub mod Keys
pub mod Left
pub mod Going
pub mod Hints
