use Prim.Native.Nat.{◌≤◌}
use Rattle.field_renewal.specs.Renewing.{Ascends}
use Rattle.field_renewal.proofs.renewing.ascends.Given as goal

abbrev pub invariant-loop-i : goal.invariant-loop-i
invariant-loop-i l = (1 ≤ l.i) × Ascends l.area l.i
