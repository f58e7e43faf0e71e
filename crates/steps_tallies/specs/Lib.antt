pub mod Bodies
pub mod Candidates
pub mod Fronts
pub mod Tally
pub mod Tallying
