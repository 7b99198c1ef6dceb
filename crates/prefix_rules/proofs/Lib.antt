pub mod Suffixed
