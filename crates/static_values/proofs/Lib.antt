pub mod Folds
pub mod Owned
