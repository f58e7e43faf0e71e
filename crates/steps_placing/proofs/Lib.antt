mod CanonBytes
pub mod CollectLaws
pub mod DecidingLaws
mod PlainResults
mod PutLaws
mod RawBounds
pub mod RawRoom
mod RepeatedCandidates
pub mod ResultScope
mod TakeLaws
mod TidiedResults
mod WrittenLaws
pub mod Below
