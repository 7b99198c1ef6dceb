pub mod Indicated
pub mod Defined
pub mod Aspected
pub mod Valued
pub mod Parts
