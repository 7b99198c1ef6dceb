pub mod Spent
pub mod SpentRunning
pub mod Agreed
pub mod AgreedRunning
pub mod Grown
pub mod GrownRunning
pub mod OneAnswer
pub mod Seen
