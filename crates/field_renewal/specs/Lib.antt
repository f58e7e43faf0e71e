pub mod ListedEntries
pub mod Renewing
pub mod Below
