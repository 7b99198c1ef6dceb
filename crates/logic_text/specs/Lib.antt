pub mod Goals
pub mod Certs
pub mod Answers
pub mod Phases
pub mod Takens
pub mod Fits
pub mod Faults
