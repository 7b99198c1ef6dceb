mod Based
mod GivenParts
pub mod Positions
pub mod Views
