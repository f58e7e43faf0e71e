pub mod ArgumentSlots
mod LabelNumbers
pub mod LabelWalks
mod RestrictionRuns
mod SideLaws
