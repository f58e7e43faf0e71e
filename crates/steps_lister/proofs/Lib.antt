pub mod NewNameLaws
pub mod OperationLaws
mod WalkOrder
mod WalkedList
pub mod TidiedBodies
pub mod TidiedListing
