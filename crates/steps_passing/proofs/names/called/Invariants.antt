use mathlib.Core.Path.{◌≡◌}
use Prim.Native.Nat.{◌≤◌}
use lib.ListN.{length}
use Rattle.steps_conditions.specs.Names.{name_slots, CalledIs}
use Rattle.steps_passing.proofs.names.called.Given as goal

abbrev pub invariant-loop-j : goal.invariant-loop-j
invariant-loop-j l = (l.j ≤ l.count) × CalledIs l.src l.at l.j l.binders l.names l.inner × (length l.inner ≡ name_slots)
