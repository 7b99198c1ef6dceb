pub mod Asks
pub mod Does
