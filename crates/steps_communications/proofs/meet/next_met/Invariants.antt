use mathlib.Core.Bool.{false}
use mathlib.Core.Path.{◌≡◌}
use Prim.Native.Nat.{ℕ, ◌<◌, ◌≤◌}
use Rattle.steps_communications.specs.Meeting.{may_meet}
use Rattle.steps_rows.specs.Rows.{kind_at, channel_at}
use Rattle.steps_communications.proofs.meet.next_met.Given as goal

abbrev pub invariant-loop-w : goal.invariant-loop-w
invariant-loop-w l =
    (l.from ≤ l.w) × (l.w ≤ l.last) × ((v : ℕ) → l.from ≤ v → v < l.w → may_meet l.kind l.channel (kind_at l.rows v) (channel_at l.rows v) ≡ false)
