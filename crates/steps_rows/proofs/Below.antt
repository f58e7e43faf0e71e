-- What crates above cite of the crates beneath this one: they take it from here, so that the dependencies of a crate stay few.
pub use Rattle.steps_equal_branches.proofs.RaisedMeetings.{raised-same, raised_free, raised_apart, slot_of_free, bound_slot, slot_one}
pub use Rattle.steps_equal_branches.proofs.ChoiceLaws.{offers_alone}
