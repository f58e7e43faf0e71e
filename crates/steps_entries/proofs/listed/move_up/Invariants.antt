use Prim.Native.Nat.{◌+◌, ◌-◌, ◌≤◌}
use lib.Seq.{sets}
use mathlib.Core.Path.{◌≡◌}
use Rattle.terms_bytes.proofs.Stores.{span}
use Rattle.steps_entries.proofs.listed.move_up.Given as goal

abbrev pub invariant-loop-i : goal.invariant-loop-i
invariant-loop-i l = (l.i ≤ l.n) × (l.list ≡ sets l.initial.list (l.i + 1) (span l.initial.list l.i (l.n - l.i)))
