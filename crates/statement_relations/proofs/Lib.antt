pub mod Parted
pub mod Asking
pub mod Choosing
pub mod Doing
