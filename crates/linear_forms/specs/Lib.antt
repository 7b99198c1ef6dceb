pub mod Form
pub mod Ordered
pub mod Fits
pub mod View
pub mod Places
