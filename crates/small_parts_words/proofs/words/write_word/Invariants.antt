use mathlib.Core.Path.{◌≡◌}
use Prim.Native.Nat.{◌≤◌}
use lib.ListN.{length}
use lib.Seq.{sets}
use Rattle.small_parts_words.specs.Words.{word_of}
use Rattle.small_parts_words.proofs.WritingLaws.{to_write}
use Rattle.small_parts_words.proofs.words.write_word.Given as goal

abbrev pub invariant-loop-i : goal.invariant-loop-i
invariant-loop-i l =
    (l.i ≤ l.size) × (length l.out ≡ length l.initial.out) × (to_write l.out l.put l.size l.i l.rest ≡ sets l.initial.out l.put (word_of l.size l.number))
