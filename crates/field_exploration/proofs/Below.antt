-- What crates above cite of the crates beneath this one: they take it from here, so that the dependencies of a crate stay few.
unfoldable pub use Rattle.field_growth.specs.Holding.{unanswered}
pub use Rattle.field_growth.specs.Holding.{SlotsHold}
pub use Rattle.field_growth.proofs.KeysDiffer.{key_equal, slot_key}
pub use Rattle.field_growth.proofs.SlotWriting.{situation-kept}
