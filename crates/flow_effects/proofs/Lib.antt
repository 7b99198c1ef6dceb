pub mod Calls
pub mod Objects
pub mod Others
pub mod OwnParts
