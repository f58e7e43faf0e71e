pub mod LeadingLaws
pub mod ResultLaws
mod StartLaws
