pub mod Filling
mod FreeMarks
pub mod FreeTests
mod RenamingWalk
