pub mod Walked
pub mod Sought
pub mod Marked
pub mod Complete
pub mod Joined
mod Members
mod Reaching
mod Turns
