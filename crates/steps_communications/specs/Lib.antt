pub mod Meeting
pub mod Met
