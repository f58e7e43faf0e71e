use Prim.Native.Nat.{◌+◌, ◌-◌, ◌*◌}
use lib.ListN.{length}
use Rattle.steps_results.proofs.result.+write_write_beside_write_call_write_parallel_write_restriction.Given as goal

abbrev pub decreases-write : goal.decreases-write
decreases-write l = 3 * (l.task.calls * 113 + (length l.src.now - l.cursor.at)) + 2

abbrev pub decreases-write_beside : goal.decreases-write_beside
decreases-write_beside l = 3 * (l.task.calls * 113 + (length l.src.now - l.cursor.at)) + 1

abbrev pub decreases-write_call : goal.decreases-write_call
decreases-write_call l = 3 * (l.task.calls * 113 + (length l.src.now - l.cursor.at))

abbrev pub decreases-write_parallel : goal.decreases-write_parallel
decreases-write_parallel l = 3 * (l.task.calls * 113 + (length l.src.now - l.cursor.at))

abbrev pub decreases-write_restriction : goal.decreases-write_restriction
decreases-write_restriction l = 3 * (l.task.calls * 113 + (length l.src.now - l.cursor.at))
