pub mod Value
pub mod Scalars
pub mod Shapes
pub mod Parts
pub mod Combine
pub mod Division
pub mod Whole
pub mod Residues
