pub mod Arranging
pub mod Entries
pub mod EntryBytes
pub mod StepActions
