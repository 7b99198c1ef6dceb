pub mod Circles
mod Firsts
pub mod Stored
mod Told
