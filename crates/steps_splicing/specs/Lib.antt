pub mod Collecting
pub mod Contexts
pub mod ListedParts
pub mod Locating
pub mod Merging
pub mod PlacedResults
pub mod Ready
