pub mod Counting
mod InPlace
mod Kept
