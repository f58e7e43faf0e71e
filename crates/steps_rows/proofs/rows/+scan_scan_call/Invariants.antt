use lib.ListN.{length}
use Prim.Native.Nat.{◌+◌, ◌-◌, ◌*◌}
use Rattle.steps_rows.proofs.rows.+scan_scan_call.Given as goal

abbrev pub decreases-scan : goal.decreases-scan
decreases-scan l = 4 * (l.scope.calls * 113 + (length l.src.now - l.scope.at)) + 3

abbrev pub decreases-scan_call : goal.decreases-scan_call
decreases-scan_call l = 4 * (l.scope.calls * 113 + (length l.src.now - l.scope.at)) + 2
