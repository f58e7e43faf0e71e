-- What crates above cite of the crates beneath this one: they take it from here, so that the dependencies of a crate stay few.
pub use Rattle.verdict_strikeout.proofs.AnyOrder.{StrikesTo, NoneToStrike, survivors-left, same-found}
pub use Rattle.verdict_strikeout.proofs.EqualParts.{equal_answered}
unfoldable pub use Rattle.verdict_strikeout.proofs.FieldKept.{field-kept}
unfoldable pub use Rattle.verdict_strikeout.proofs.StrikeLaws.{still, still_with}
pub use Rattle.verdict_strikeout.proofs.StrikeLaws.{strikes_rest, strikes_to}
