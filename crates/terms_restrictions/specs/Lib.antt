pub mod Restrictions
pub mod Unused
