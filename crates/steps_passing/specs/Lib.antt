pub mod Branching
pub mod Passing
