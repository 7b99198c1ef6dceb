pub mod Bytes
pub mod Lines
pub mod Numbers
pub mod Outcomes
pub mod Parts
pub mod Reports
