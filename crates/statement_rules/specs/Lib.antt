pub mod Arounds
pub mod Bodies
pub mod Reads
