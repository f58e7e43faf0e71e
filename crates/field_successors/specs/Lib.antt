pub mod Fits
pub mod Leading
pub mod Resulting
pub mod Starting
