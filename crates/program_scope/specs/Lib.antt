pub mod Homes
pub mod Ranks
