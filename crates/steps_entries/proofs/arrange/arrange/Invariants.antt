use Prim.Native.Nat.{◌≤◌}
use mathlib.Core.Path.{◌≡◌}
use lib.ListN.{length}
use Rattle.steps_entries.proofs.ArrangeLaws.{Arranges}
use Rattle.steps_entries.proofs.arrange.arrange.Given as goal

abbrev pub invariant-loop-i : goal.invariant-loop-i
invariant-loop-i l =
    (l.i ≤ l.count) × (length l.list ≡ length l.initial.list) × Arranges l.initial.list l.count l.i l.list
