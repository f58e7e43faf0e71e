pub mod Examples
pub mod ExpandedComplete
pub mod ExpandedSound
pub mod LimitExact
pub mod Unchanged
