use mathlib.Core.Path.{◌≡◌}
use Prim.Native.Nat.{◌≤◌}
use Rattle.terms_bytes.specs.FieldPlaces.{field_place}
use Rattle.terms.specs.Limits.{most_definitions}
use Rattle.steps_tallies.specs.Tally.{TalliedBelow}
use Rattle.steps_tallies.proofs.tally.body_tallies.Given as goal

abbrev pub invariant-loop-k : goal.invariant-loop-k
invariant-loop-k l = (l.k ≤ most_definitions) × TalliedBelow l.question l.k l.bodies × (l.place ≡ field_place l.question l.k)
