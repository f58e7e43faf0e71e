use mathlib.Core.Path.{◌≡◌}
use Prim.Native.Nat.{◌-◌, ◌≤◌}
use lib.ListN.{length}
use Rattle.terms_renaming.proofs.FreeMarks.{Going}
use Rattle.terms_renaming.proofs.free.mark_free.Given as goal

abbrev pub invariant-loop-at : goal.invariant-loop-at
invariant-loop-at l = (l.at ≤ length l.part) × (length l.flags ≡ length l.initial.flags) × Going l.part l.arities l.initial.flags l.at l.flags

abbrev pub decreases-loop-at : goal.decreases-loop-at
decreases-loop-at l = length l.part - l.at
