use mathlib.Core.Path.{◌≡◌}
use Prim.Native.Nat.{◌≤◌}
use lib.ListN.{length}
use Rattle.steps_rows.specs.Rows.{PutRepeatedIs}
use Rattle.steps_rows.proofs.rows.put_repeated.Given as goal

abbrev pub invariant-loop-i : goal.invariant-loop-i
invariant-loop-i l = (l.i ≤ l.count) × (length l.rows ≡ length l.initial.rows) × PutRepeatedIs l.i l.n l.initial.rows l.m l.rows
