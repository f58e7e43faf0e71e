pub mod GrowingLaws
pub mod GrownSituations
pub mod KeysDiffer
pub mod LookedLaws
pub mod Loops
mod MirroredLaws
pub mod SlotWriting
