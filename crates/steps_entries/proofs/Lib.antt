mod ArrangeLaws
mod EntryLaws
pub mod EntryOrder
mod InsertLaws
pub mod Moves
pub mod StepEntries
