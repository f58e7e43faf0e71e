pub mod CensusOfWords
pub mod CensusTheorems
pub mod Counting
pub mod FewSteps
pub mod ListOfParts
pub mod Settled
pub mod Size
