pub mod Conditions
pub mod Labels
pub mod Names
pub mod Slots
