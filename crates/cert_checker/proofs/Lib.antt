pub mod Allowed
pub mod Checked
pub mod Valid
