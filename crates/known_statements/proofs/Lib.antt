pub mod Asked
pub mod Demanded
pub mod Chosen
pub mod Acted
