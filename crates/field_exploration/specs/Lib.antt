pub mod Exploring
pub mod Following
