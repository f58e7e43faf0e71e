use Prim.Native.Nat.{◌≤◌}
use Rattle.steps_equal_branches.specs.Same.{HoldsIs}
use Rattle.steps_equal_branches.proofs.same.chain_holds.Given as goal

abbrev pub invariant-loop-j : goal.invariant-loop-j
invariant-loop-j l = (l.j ≤ l.n) × HoldsIs l.class l.src l.args l.inner l.depth l.p l.j
