pub mod Accepting
pub mod Values
pub mod Parts
pub mod Aggregated
pub mod Forms
pub mod Attributed
pub mod Names
pub mod Trees
