pub mod Counted
pub mod FieldPlaces
pub mod NameTable
pub mod Refusals
pub mod Shape
pub mod Writing
