pub mod Finished
pub mod Starts
