pub mod Deciding
pub mod Placing
pub mod Putting
pub mod Taking
pub mod TidiedResults
