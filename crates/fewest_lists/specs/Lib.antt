pub mod Bests
pub mod Lists
