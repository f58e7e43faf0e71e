mod ExploringLaws
pub mod Below
