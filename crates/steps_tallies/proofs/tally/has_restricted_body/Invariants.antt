use mathlib.Core.Path.{◌≡◌}
use Rattle.terms_bytes.specs.FieldPlaces.{field_place}
use Rattle.steps_tallies.proofs.RestrictedBodies.{UnrestrictedBelow}
use Rattle.steps_tallies.proofs.tally.has_restricted_body.Given as goal

abbrev pub invariant-loop-k : goal.invariant-loop-k
invariant-loop-k l = UnrestrictedBelow l.question l.k × (l.place ≡ field_place l.question l.k)
