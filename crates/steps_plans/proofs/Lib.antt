mod AskLaws
pub mod BesideLaws
pub mod PlanLaws
pub mod ResultLaws
