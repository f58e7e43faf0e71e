pub mod CallWalks
pub mod ReachLaws
pub mod ReachTheorems
pub mod Rows
pub mod TableLaws
pub mod WalkLaws
pub mod Walking
