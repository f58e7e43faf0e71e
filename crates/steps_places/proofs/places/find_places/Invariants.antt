use Rattle.steps_places.proofs.FindLaws.{Going}
use Rattle.steps_partitions.specs.Partition.{most_partitions, continuations}
use mathlib.Core.Path.{◌≡◌}
use Prim.Native.Nat.{◌≤◌}
use lib.ListN.{length}
use Rattle.steps_places.proofs.places.find_places.Given as goal

abbrev pub invariant-loop-row : goal.invariant-loop-row
invariant-loop-row l = (l.row ≤ continuations l.count 0) × (length l.found ≡ most_partitions) × Going l.question l.count l.table l.row l.found
