pub mod Dropped
mod Listed
