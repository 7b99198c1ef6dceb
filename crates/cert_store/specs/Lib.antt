pub mod Assumed
pub mod Steps
pub mod Store
