-- What crates above cite of the crates beneath this one: they take it from here, so that the dependencies of a crate stay few.
pub use Rattle.steps_placing.proofs.DecidingLaws.{by-fails, decided-matching, decided-left, decided_right, decided-restricted, decided_trivial, again-more, again_by, again_trivial}
pub use Rattle.steps_placing.proofs.Below.{ends_tallied}
