pub mod Ends
pub mod Missing
pub mod Operations
pub mod Operators
pub mod Parts
pub mod Relations
