mod BranchLaws
pub mod ChoiceLaws
pub mod RaisedMeetings
mod SameLaws
pub mod Below
