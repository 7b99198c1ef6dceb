pub mod Counted
pub mod Members
pub mod Placed
pub mod StatementViews
pub mod Views
