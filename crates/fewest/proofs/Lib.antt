pub mod ChoiceLaws
pub mod ChoiceOrder
pub mod EditionsAlike
pub mod FewestIsDefinition13
pub mod ListLaws
pub mod SmallOutcome
