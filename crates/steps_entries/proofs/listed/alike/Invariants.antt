use Prim.Native.Nat.{◌≤◌}
use Rattle.steps_entries.specs.Entries.{AlikeIs}
use Rattle.steps_entries.proofs.listed.alike.Given as goal

abbrev pub invariant-loop-k : goal.invariant-loop-k
invariant-loop-k l = (l.k ≤ l.n) × AlikeIs l.a l.i l.b l.j l.k l.same
