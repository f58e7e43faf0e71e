use mathlib.Core.Path.{◌≡◌}
use Prim.Native.Nat.{◌%◌, ◌≤◌}
use lib.ListN.{length}
use Rattle.field_pairs.specs.PairFlags.{pair_count}
use Rattle.field_successors.proofs.StartLaws.{Marking}
use Rattle.field_successors.proofs.start.mark_list.Given as goal

abbrev pub invariant-loop-i : goal.invariant-loop-i
invariant-loop-i l = (l.i ≤ length l.list) × (l.i % 2 ≡ length l.list % 2) × (length l.flags ≡ pair_count) × Marking l.list l.initial.flags l.flags l.i

abbrev pub decreases-loop-i : goal.decreases-loop-i
decreases-loop-i l = l.i
