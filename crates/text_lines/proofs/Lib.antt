mod Seeking
pub mod Told
