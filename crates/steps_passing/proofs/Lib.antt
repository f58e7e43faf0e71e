mod BranchLaws
pub mod CalledPasses
pub mod PassLaws
mod SourceLaws
pub mod TwoSides
