pub mod Converting
pub mod Questions
