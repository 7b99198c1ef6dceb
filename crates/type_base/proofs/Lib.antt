pub mod Firsts
pub mod Meanings
pub mod OperatorFirsts
pub mod Places
