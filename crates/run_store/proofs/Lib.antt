mod EntryLists
pub mod FrameLaws
mod OwnBounds
pub mod SlotViews
mod Wholes
