mod PartLaws
pub mod WordLaws
mod WritingLaws
