pub mod ListedParts
pub mod ListedSides
pub mod RenewingLaws
