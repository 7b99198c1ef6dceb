pub mod Lookups
pub mod Standard
pub mod Scope
pub mod Moduli
pub mod Demands
pub mod Results
pub mod Operators
pub mod Faults
