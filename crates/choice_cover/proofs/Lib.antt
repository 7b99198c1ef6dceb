pub mod Apart
pub mod Chosen
pub mod Filled
pub mod Function
pub mod Held
pub mod Only
pub mod Sized
