pub mod Faults
pub mod Cases
