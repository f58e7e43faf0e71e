use Prim.Native.Nat.{◌*◌, ◌≤◌}
use Rattle.field_kept_lists.proofs.kept_lists.weighed.Given as goal

abbrev pub invariant-loop-k : goal.invariant-loop-k
invariant-loop-k l = (l.sum ≤ 4294967296 * l.k) × (l.sums ≤ 120259084288 * l.k)
