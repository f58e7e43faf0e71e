pub mod ChainLaws
mod KeptFlags
pub mod KeptPairs
pub mod KeyLaws
pub mod NotedLaws
mod Runs
pub mod UpdateLaws
