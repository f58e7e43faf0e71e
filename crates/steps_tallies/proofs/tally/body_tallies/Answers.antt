use mathlib.Core.Path.{ap, subst, ◌∙◌}
use Prim.Native.Nat.{ℕ}
use native.Mathlib.Numerals.{add-one}
use native.Mathlib.Omega.{arith}
use Rattle.terms_bytes.specs.FieldPlaces.{after_field, field_place}
use Rattle.steps_tallies.specs.Tally.{TalliedBelow}
use Rattle.steps_tallies.proofs.TallyLoops.{tallied-none}
use Rattle.steps_tallies.proofs.tally.body_tallies.Goals as goal

-- src/tally.rt:290:5
pub loop-k-init : goal.loop-k-init
loop-k-init c = (omega arith, tallied-none c.args.question.now, c.field_place-place.ensures)

-- src/tally.rt:291:9
pub tally_body-requires : goal.tally_body-requires
tally_body-requires c = (c.loop-k-test.true, c.loop-k.invariant.1, c.loop-k.invariant.2)

-- src/tally.rt:293:9

-- src/tally.rt:290:5

-- src/tally.rt:290:5
pub loop-k-preserved : goal.loop-k-preserved
unfolding field_place
loop-k-preserved c = (
  omega (arith, c.loop-k-test.true),
  c.tally_body.ensures,
  rw add-one (c.after_field-place.ensures ∙ ap (after_field _)
      c.loop-k.invariant.2),
)

-- src/tally.rt:295:5
pub put_places-requires : goal.put_places-requires
put_places-requires c =
    subst (λ (k : ℕ). TalliedBelow c.args.question.now k c.loop-k.bodies) (omega (arith, c.loop-k.invariant.0, c.loop-k-test.false))
    c.loop-k.invariant.1

-- src/tally.rt:296:5
pub note_restrictions-requires : goal.note_restrictions-requires
note_restrictions-requires c =
    (c.put_places.ensures.0, c.put_places.ensures.1, c.requires)

-- src/tally.rt:283:1
pub returns : goal.returns
returns c = c.note_restrictions.ensures
