pub mod Valid
pub mod Sound
pub mod Numbering
pub mod Exact
pub mod Steps
pub mod Equal
pub mod Passing
pub mod Complete
