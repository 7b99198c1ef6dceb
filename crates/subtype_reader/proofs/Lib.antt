pub mod Ends
pub mod Ranged
