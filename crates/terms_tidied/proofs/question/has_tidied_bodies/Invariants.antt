use mathlib.Core.Path.{◌≡◌}
use Prim.Native.Nat.{◌-◌, ◌≤◌}
use Rattle.terms_bytes.specs.FieldPlaces.{field_place}
use Rattle.terms_tidied.proofs.TidiedAlready.{TidiedBelow}
use Rattle.terms_tidied.proofs.question.has_tidied_bodies.Given as goal

abbrev pub invariant-loop-definition : goal.invariant-loop-definition
invariant-loop-definition l = TidiedBelow l.question l.definition × (l.at ≡ field_place l.question l.definition) × (l.definition ≤ l.last)
