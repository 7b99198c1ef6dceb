pub mod Cover
pub mod Sweeps
pub mod Covering
pub mod Sizes
