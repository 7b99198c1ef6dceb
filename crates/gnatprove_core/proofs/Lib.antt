pub mod Only
pub mod Ending
pub mod Soundness
pub mod Complete
pub mod Getting
mod Reading
