pub mod Components
pub mod RunValues
pub mod Outcomes
