use mathlib.Core.Path.{◌≡◌}
use Prim.Native.Nat.{◌-◌, ◌*◌, ◌≤◌}
use lib.ListN.{length}
use Rattle.small_parts_words.specs.Words.{most_parts}
use Rattle.small_parts_count.specs.Tallies.{none, tallied, word_pairs, total}
use Rattle.small_parts_count.proofs.TallyLaws.{pairs_from}
use Rattle.small_parts_count.proofs.tally.tally_pairs.Given as goal

abbrev pub invariant-loop-i : goal.invariant-loop-i
invariant-loop-i l =
    (l.i ≤ length l.kept) × (length l.work ≡ length l.initial.work) × (total l.tally ≤ most_parts * l.i)
    × (tallied l.tally (pairs_from l.size l.kept l.i) ≡ tallied none (word_pairs l.size l.kept l.kept))
