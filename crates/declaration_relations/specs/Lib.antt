pub mod Found
pub mod Indicates
pub mod Defines
pub mod Values
pub mod Profiles
pub mod States
pub mod Declares
pub mod Programs
