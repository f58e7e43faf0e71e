use Prim.Native.Nat.{◌+◌, ◌-◌, ◌*◌}
use lib.ListN.{length}
use Rattle.steps_labels.proofs.label.+nth_nth_call_nth_meeting.Given as goal

abbrev pub decreases-nth : goal.decreases-nth
decreases-nth l = 4 * (l.scope.calls * 113 + (length l.src.now - l.scope.at)) + 3

abbrev pub decreases-nth_call : goal.decreases-nth_call
decreases-nth_call l = 4 * (l.scope.calls * 113 + (length l.src.now - l.scope.at)) + 2

abbrev pub decreases-nth_meeting : goal.decreases-nth_meeting
decreases-nth_meeting l = 4 * (l.scope.calls * 113 + (length l.src.now - l.scope.at)) + 1
