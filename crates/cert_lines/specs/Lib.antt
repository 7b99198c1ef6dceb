pub mod Line
pub mod Symbols
pub mod View
