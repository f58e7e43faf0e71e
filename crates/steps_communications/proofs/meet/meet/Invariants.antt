use mathlib.Core.Path.{◌≡◌}
use Prim.Native.Nat.{◌+◌, ◌*◌, ◌≤◌}
use lib.ListN.{length}
use Rattle.steps.specs.Limits.{most_steps}
use Rattle.steps_rows.specs.Rows.{most_rows}
use Rattle.steps_communications.proofs.MeetRows.{Met}
use Rattle.steps_communications.proofs.meet.meet.Given as goal

abbrev pub invariant-loop-row : goal.invariant-loop-row
invariant-loop-row l =
    (l.n ≤ most_steps) × (length l.area ≡ length l.initial.area) × (l.first ≤ l.row) × (l.row ≤ l.middle) × (l.j ≤ l.initial.j + most_rows * l.row)
    × Met l.question l.part l.node.at l.node.depth l.node.number l.initial.j l.node.x l.rows l.first l.middle l.last l.initial.area l.initial.n l.row l.n l.j l.area
