pub mod Manners
pub mod Striking
