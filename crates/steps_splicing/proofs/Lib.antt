pub mod CandidateResults
pub mod ContextLaws
mod LocateLaws
mod MergingLaws
mod MetResults
pub mod PlacedResults
