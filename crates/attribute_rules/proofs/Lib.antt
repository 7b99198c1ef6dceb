pub mod Mapped
pub mod Paths
pub mod Steps
