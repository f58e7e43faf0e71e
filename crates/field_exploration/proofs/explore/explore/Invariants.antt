use mathlib.Core.Path.{◌≡◌}
use Prim.Native.Nat.{◌*◌, ◌-◌, ◌≤◌}
use lib.ListN.{length}
use Rattle.steps_tallies.specs.Tally.{tally_size}
use Rattle.field_taking_up.specs.Below.{row_bytes, most_rows}
use Rattle.field_taking_up.specs.Below.{Labelled}
use Rattle.field_exploration.proofs.ExploringLaws.{Explorers}
use Rattle.field_exploration.proofs.explore.explore.Given as goal

abbrev pub invariant-loop-taken : goal.invariant-loop-taken
invariant-loop-taken l =
    (l.taken ≤ l.known) × (1 ≤ l.known) × (l.known ≤ l.capacity) × (length l.work ≡ length l.initial.work) × (length l.tallies ≡ tally_size) × (row_bytes * most_rows ≤ length l.rows)
    × Labelled l.question l.firsts × Labelled l.question l.seconds × Explorers l.differ l.question l.capacity l.initial.work l.work l.known l.taken
    × (length l.tallies ≡ length l.initial.tallies) × (length l.rows ≡ length l.initial.rows) × (length l.firsts ≡ length l.initial.firsts) × (length l.seconds ≡ length l.initial.seconds)

abbrev pub decreases-loop-taken : goal.decreases-loop-taken
decreases-loop-taken l = l.capacity - l.taken
