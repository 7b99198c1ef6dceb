pub mod Firsts
pub mod Lasts
pub mod Read
