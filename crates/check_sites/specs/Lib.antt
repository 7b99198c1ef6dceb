pub mod Known
pub mod Sites
pub mod Ordered
pub mod Has
pub mod Listed
