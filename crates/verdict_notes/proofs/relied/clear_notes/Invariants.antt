use mathlib.Core.Path.{◌≡◌}
use Prim.Native.Nat.{◌≤◌}
use lib.ListN.{length}
use Rattle.verdict_notes.proofs.NoteLaws.{Clearing}
use Rattle.verdict_notes.proofs.relied.clear_notes.Given as goal

abbrev pub invariant-loop-i : goal.invariant-loop-i
invariant-loop-i l = (l.i ≤ l.count) × (length l.work ≡ length l.initial.work) × Clearing l.count l.initial.work l.work l.i
