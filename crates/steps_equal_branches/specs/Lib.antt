pub mod BranchRows
pub mod Same
pub mod Below
