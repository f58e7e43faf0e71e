use mathlib.Core.Path.{◌≡◌}
use Prim.Native.Nat.{◌-◌, ◌≤◌}
use lib.ListN.{length}
use Rattle.steps.specs.Limits.{most_steps}
use Rattle.steps_communications.specs.Meeting.{met_or}
use Rattle.steps_communications.proofs.MeetRows.{Next}
use Rattle.steps_communications.proofs.meet.meet_row.Given as goal

abbrev pub invariant-loop-next : goal.invariant-loop-next
invariant-loop-next l =
    (l.n ≤ most_steps) × (length l.area ≡ length l.initial.area)
    × Next l.question l.part l.node.at l.node.depth l.node.number l.node.x l.rows l.row l.a.number l.middle l.last l.j l.initial.area l.initial.n l.next l.n l.area

abbrev pub decreases-loop-next : goal.decreases-loop-next
decreases-loop-next l =
    l.last - met_or l.last l.next
