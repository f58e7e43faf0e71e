use mathlib.Core.Path.{◌≡◌}
use Prim.Native.Nat.{◌≤◌}
use lib.ListN.{length}
use Rattle.terms_bytes.specs.FieldPlaces.{field_place}
use Rattle.terms.specs.Limits.{most_definitions}
use Rattle.steps_tallies.specs.Tally.{TalliedBelow, PlacesBelow}
use Rattle.steps_tallies.proofs.tally.put_places.Given as goal

abbrev pub invariant-loop-k : goal.invariant-loop-k
invariant-loop-k l =
    (l.k ≤ most_definitions) × TalliedBelow l.question most_definitions l.bodies × PlacesBelow l.question l.k l.bodies × (l.place ≡ field_place l.question l.k) × (length l.bodies ≡ length l.initial.bodies)
