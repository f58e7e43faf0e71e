pub mod Beside
pub mod Plans
