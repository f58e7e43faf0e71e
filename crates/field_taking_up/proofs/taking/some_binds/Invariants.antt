use Prim.Native.Nat.{◌≤◌}
use Rattle.field_taking_up.proofs.TakingLaws.{Unbound}
use Rattle.field_taking_up.proofs.taking.some_binds.Given as goal

abbrev pub invariant-loop-i : goal.invariant-loop-i
invariant-loop-i l = (l.i ≤ l.count) × Unbound l.area l.count l.i
