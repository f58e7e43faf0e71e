pub mod Entry
pub mod NameFlags
pub mod PairNumbers
pub mod PairFlags
pub mod Slot
