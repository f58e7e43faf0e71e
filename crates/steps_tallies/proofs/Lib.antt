mod BodyPlaces
pub mod CallLaws
pub mod CandidateForms
pub mod FrontLaws
pub mod Numbering
pub mod OwnNames
pub mod Premises
mod RestrictedBodies
mod TallyLaws
pub mod TallyLoops
pub mod Unrestricted
