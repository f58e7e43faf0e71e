use mathlib.Core.Bool.{true≢false}
use mathlib.Core.Path.{ap, subst, ◌∙◌}
use native.Mathlib.Numerals.{add-one}
use Rattle.terms_bytes.specs.FieldPlaces.{after_field, field_place}
use Rattle.terms_restrictions.specs.Restrictions.{HasRestrictionIs}
use Rattle.steps_tallies.proofs.RestrictedBodies.{none-restricted, one_more, all_looked_at}
use Rattle.steps_tallies.proofs.tally.has_restricted_body.Goals as goal

-- src/tally.rt:261:5
pub loop-k-init : goal.loop-k-init
loop-k-init c = (none-restricted _, c.field_place-place.ensures)

-- src/tally.rt:264:13
pub returns-then-has_restriction : goal.returns-then-has_restriction
returns-then-has_restriction c = λ e. absurd (true≢false e)

-- src/tally.rt:261:5
pub loop-k-preserved : goal.loop-k-preserved
unfolding field_place
loop-k-preserved c = (
  one_more c.args.question.now c.arities_of-arities.result.now c.arities_of-arities.ensures c.loop-k.k c.loop-k.invariant.0
      c.body_at-body.result.now (c.body_at-body.ensures c.loop-k.k c.loop-k.invariant.1) c.loop-k-test.true (subst (HasRestrictionIs
      c.body_at-body.result.now c.arities_of-arities.result.now) c.if-has_restriction.false c.has_restriction.ensures),
  rw add-one
      (c.after_field-place.ensures ∙ ap (after_field _) c.loop-k.invariant.1),
)

-- src/tally.rt:255:1
pub returns : goal.returns
returns c =
    λ e. all_looked_at c.args.question.now c.arities_of-arities.result.now c.arities_of-arities.ensures c.loop-k.k c.loop-k.invariant.0
    c.loop-k-test.false
