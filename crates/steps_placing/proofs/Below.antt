-- What crates above cite of the crates beneath this one: they take it from here, so that the dependencies of a crate stay few.
unfoldable pub use Rattle.steps_splicing.specs.Contexts.{raised, level_in}
pub use Rattle.steps_splicing.specs.Contexts.{Frame, left_of, right_of, beneath, restrictions}
pub use Rattle.steps_splicing.proofs.ContextLaws.{raised-blocked}
pub use Rattle.steps_plans.proofs.ResultLaws.{ends_tallied}
