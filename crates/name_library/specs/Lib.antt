pub mod Library
pub mod Chains
