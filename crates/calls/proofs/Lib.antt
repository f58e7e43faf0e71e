pub mod Examples
pub mod ReachEnds
pub mod ReachLimits
pub mod ReachRenaming
pub mod ReachSearching
pub mod Reaching
pub mod Theorems
