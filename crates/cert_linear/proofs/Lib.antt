pub mod Faults
pub mod Gathered
pub mod Stepping
pub mod Earlier
pub mod Clause
