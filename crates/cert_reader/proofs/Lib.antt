pub mod Following
pub mod Leaves
pub mod Forms
pub mod Lists
pub mod Wholes
