pub mod Ascending
pub mod Compared
pub mod Found
pub mod Keys
pub mod Members
pub mod Stable
