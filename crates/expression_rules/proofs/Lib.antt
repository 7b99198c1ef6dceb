pub mod Accepted
pub mod Knowns
