mod QuietWalks
pub mod RowLaws
mod RowWalks
pub mod Below
