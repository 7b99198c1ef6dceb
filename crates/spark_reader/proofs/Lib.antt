pub mod Only
pub mod Places
