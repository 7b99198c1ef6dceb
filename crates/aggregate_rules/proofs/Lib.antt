pub mod Covering
pub mod Gathering
