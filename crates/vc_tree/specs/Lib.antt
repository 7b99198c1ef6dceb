pub mod Tree
pub mod Goals
pub mod Rules
pub mod Sound
