pub mod Results
pub mod Numbers
pub mod Terms
pub mod Renaming
pub mod Walk
pub mod Inputs
pub mod Proved
