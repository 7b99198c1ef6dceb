pub mod Division
pub mod Powers
pub mod Whole
pub mod Equal
pub mod Views
pub mod Results
pub mod Modulo
pub mod Parts
