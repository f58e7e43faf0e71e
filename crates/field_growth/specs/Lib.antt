pub mod Growing
pub mod Holding
pub mod Below
