use Rattle.verdict_answers.specs.Manners.{manner_of}
use mathlib.Core.Bool.{true}
use mathlib.Core.Path.{◌≡◌}
use Prim.Native.Nat.{◌*◌, ◌≤◌}
use lib.ListN.{length}
use Rattle.steps_tallies.specs.Tally.{tally_size}
use Rattle.steps_rows.specs.Rows.{row_bytes, most_rows}
use Rattle.field_kept_lists.specs.ListArea.{Labelled}
use Rattle.verdict_answers.specs.Striking.{marks, zeros, NotesHold, Strikes}
use Rattle.verdict_start.proofs.passes.survives_passes.Given as goal

abbrev pub invariant-loop-search : goal.invariant-loop-search
invariant-loop-search l =
    (length l.work ≡ length l.initial.work) × (length l.tallies ≡ tally_size) × (row_bytes * most_rows ≤ length l.rows) × Labelled l.question l.firsts × Labelled l.question l.seconds
    × Strikes (manner_of l.search.manner) l.question l.search.capacity l.count l.initial.work l.work
    × (length l.tallies ≡ length l.initial.tallies) × (length l.rows ≡ length l.initial.rows) × (length l.firsts ≡ length l.initial.firsts) × (length l.seconds ≡ length l.initial.seconds)
    × NotesHold true (manner_of l.search.manner) l.question l.search.capacity l.work l.count

abbrev pub decreases-loop-search : goal.decreases-loop-search
decreases-loop-search l = zeros (marks l.work l.count)
