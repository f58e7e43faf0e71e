pub mod FreeFlags
pub mod Renaming
