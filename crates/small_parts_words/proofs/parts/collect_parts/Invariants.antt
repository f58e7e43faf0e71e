use mathlib.Core.Path.{◌≡◌}
use Prim.Native.Nat.{◌≤◌}
use lib.ListN.{length}
use lib.Seq.{sets}
use Rattle.small_parts_words.specs.Words.{parts_below}
use Rattle.small_parts_words.proofs.parts.collect_parts.Given as goal

abbrev pub invariant-loop-number : goal.invariant-loop-number
invariant-loop-number l =
    (l.number ≤ l.words) × (l.count ≡ length (parts_below l.size l.number)) × (l.kept ≡ sets l.initial.kept 0 (parts_below l.size l.number))
