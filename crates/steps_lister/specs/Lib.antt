pub mod Answering
pub mod PartLister
pub mod Renewed
