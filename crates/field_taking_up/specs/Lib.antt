pub mod TakingUp
pub mod Below
