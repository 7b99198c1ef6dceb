pub mod Refusals
pub mod Leading
pub mod Sums
