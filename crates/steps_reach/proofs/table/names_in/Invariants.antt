use mathlib.Core.Path.{◌≡◌}
use Prim.Native.Nat.{◌≤◌}
use lib.ListN.{length}
use Rattle.steps_reach.specs.CallTable.{NamesIs}
use Rattle.terms.specs.Limits.{greatest_arity}
use Rattle.steps_reach.proofs.table.names_in.Given as goal

abbrev pub invariant-loop-j : goal.invariant-loop-j
invariant-loop-j l = (l.j ≤ l.count) × NamesIs l.src l.at l.j l.table l.row l.arity l.names × (length l.names ≡ greatest_arity)
