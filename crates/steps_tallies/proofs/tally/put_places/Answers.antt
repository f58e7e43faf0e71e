use native.Mathlib.Omega.{arith}
use mathlib.Core.Path.{refl, ap, subst, ◌∙◌}
use Prim.Native.Nat.{ℕ}
use native.Mathlib.Numerals.{add-one}
use Rattle.terms_bytes.specs.FieldPlaces.{after_field, field_place}
use Rattle.steps_tallies.specs.Tally.{PlacesBelow}
use Rattle.steps_tallies.proofs.TallyLoops.{no_place}
use borrow.Author.Rules.{rules}
use Rattle.steps_tallies.proofs.tally.put_places.Goals as goal

pub loop-k-init : goal.loop-k-init
loop-k-init c = (omega arith, c.requires, no_place _ _, c.field_place-place.ensures, refl)

pub put_place-requires : goal.put_place-requires
put_place-requires c =
    (c.loop-k-test.true, c.loop-k.invariant.1, c.loop-k.invariant.2, c.loop-k.invariant.3)

pub loop-k-preserved : goal.loop-k-preserved
unfolding field_place
loop-k-preserved c = (
  omega (arith, c.loop-k-test.true),
  c.put_place.ensures.0,
  c.put_place.ensures.1,
  rw add-one (c.after_field-place.ensures ∙ ap (after_field _)
      c.loop-k.invariant.3),
  search rules,
)

pub returns : goal.returns
returns c = (
  c.loop-k.invariant.1,
  subst (λ (k : ℕ). PlacesBelow c.args.question.now k c.loop-k.bodies) (omega (
    arith,
    c.loop-k.invariant.0,
    c.loop-k-test.false,
  )) c.loop-k.invariant.2,
)
