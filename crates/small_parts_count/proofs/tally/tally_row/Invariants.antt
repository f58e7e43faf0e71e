use mathlib.Core.Path.{◌≡◌}
use Prim.Native.Nat.{◌+◌, ◌-◌, ◌≤◌}
use lib.ListN.{length, drop}
use Rattle.small_parts_count.specs.Tallies.{tallied, row_of, total}
use Rattle.small_parts_count.proofs.tally.tally_row.Given as goal

abbrev pub invariant-loop-j : goal.invariant-loop-j
invariant-loop-j l =
    (l.j ≤ length l.kept) × (length l.work ≡ length l.initial.work) × (total l.tally ≤ total l.initial.tally + l.j)
    × (tallied l.tally (drop l.j (row_of l.size l.row l.kept)) ≡ tallied l.initial.tally (row_of l.size l.row l.kept))
