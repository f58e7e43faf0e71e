use Rattle.steps_places.proofs.CloseLaws.{Closing}
use Rattle.steps_partitions.specs.Partition.{most_partitions}
use mathlib.Core.Path.{◌≡◌}
use Prim.Native.Nat.{◌<◌, ◌-◌}
use lib.ListN.{length}
use Rattle.steps_places.proofs.places.close_row.Given as goal

abbrev pub invariant-loop-j : goal.invariant-loop-j
invariant-loop-j l = (length l.found ≡ most_partitions) × (l.done < 18446744073709551616) × Closing l.question l.row l.count l.table l.initial.found l.found l.done

abbrev pub decreases-loop-j : goal.decreases-loop-j
decreases-loop-j l = 18446744073709551616 - l.done
