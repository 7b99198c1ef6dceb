pub mod Accepting
pub mod Reading
pub mod Sofar
pub mod Naming
