use mathlib.Core.Path.{◌∙◌}
use native.Mathlib.Omega.{arith}
use Rattle.terms_bytes.specs.FieldPlaces.{definitions_of}
use Rattle.steps_tallies.proofs.TallyLoops.{place_there}
use Rattle.steps_tallies.proofs.tally.place_of.Goals as goal

pub returns-then-k-ge-MOST_DEFINITIONS : goal.returns-then-k-ge-MOST_DEFINITIONS
returns-then-k-ge-MOST_DEFINITIONS c = c.field_place.ensures

pub returns-then-question-ge-SMALL_PLACE : goal.returns-then-question-ge-SMALL_PLACE
returns-then-question-ge-SMALL_PLACE c = c.field_place-then-question-ge-SMALL_PLACE.ensures

pub overflow_mul-k : goal.overflow_mul-k
overflow_mul-k c = omega (arith, c.if-k-ge-MOST_DEFINITIONS.false)

pub returns : goal.returns
unfolding definitions_of
returns c =
    c.number.ensures ∙ place_there _ _ _ c.requires (omega (arith, c.if-k-ge-MOST_DEFINITIONS.false)) (omega (arith, c.shared_slice_known-1.given 1))
    (omega (arith, c.if-question-ge-SMALL_PLACE.false))
