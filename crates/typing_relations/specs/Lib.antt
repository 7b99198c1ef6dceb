pub mod Demanded
pub mod Obeys
