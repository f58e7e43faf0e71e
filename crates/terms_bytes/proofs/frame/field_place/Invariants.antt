use mathlib.Core.Path.{◌≡◌}
use Prim.Native.Nat.{◌≤◌}
use Rattle.terms_bytes.specs.FieldPlaces.{field_place}
use Rattle.terms_bytes.proofs.frame.field_place.Given as goal

abbrev pub invariant-loop-i : goal.invariant-loop-i
invariant-loop-i l = (l.i ≤ l.k) × (l.at ≡ field_place l.question l.i)
