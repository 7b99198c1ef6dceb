pub mod Asked
pub mod Statements
pub mod Declarations
pub mod Events
pub mod Nested
pub mod Cases
