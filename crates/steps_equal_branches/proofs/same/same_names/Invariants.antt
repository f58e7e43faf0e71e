use Prim.Native.Nat.{◌≤◌}
use Rattle.steps_equal_branches.specs.Same.{SameNames}
use Rattle.steps_equal_branches.proofs.same.same_names.Given as goal

abbrev pub invariant-loop-j : goal.invariant-loop-j
invariant-loop-j l = (l.j ≤ l.n) × SameNames l.src l.args l.inner l.depth l.p l.at l.j
