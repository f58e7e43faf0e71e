use mathlib.Core.Path.{◌≡◌}
use Prim.Native.Nat.{◌≤◌}
use lib.ListN.{length}
use Rattle.steps.specs.Limits.{most_steps}
use Rattle.steps_walk.proofs.ComponentLaws.{RowsGo}
use Rattle.steps_walk.proofs.walk.take_rows.Given as goal

abbrev pub invariant-loop-j : goal.invariant-loop-j
invariant-loop-j l =
    (l.n ≤ most_steps) × (length l.area ≡ length l.initial.area) × RowsGo l.question l.part l.node.at l.node.depth l.rows l.first l.last l.node.x l.initial.area l.initial.n l.j l.n l.area
