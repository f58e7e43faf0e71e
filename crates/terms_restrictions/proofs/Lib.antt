pub mod Mentions
pub mod RestrictionWalk
pub mod UnusedWalk
