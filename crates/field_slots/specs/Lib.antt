pub mod Chains
pub mod Key
pub mod Noted
pub mod Update
