use mathlib.Core.Path.{◌≡◌}
use Prim.Native.Nat.{◌-◌, ◌≤◌}
use lib.ListN.{length}
use Rattle.terms_tidying.proofs.TidiedWalk.{Walking}
use Rattle.terms_tidying.proofs.tidied.all_used.Given as goal

abbrev pub invariant-loop-at : goal.invariant-loop-at
invariant-loop-at l = (length l.waits ≡ 128) × (length l.depths ≡ 128) × (l.pending ≤ l.at) × Walking l.src l.arities l.at l.depth l.pending l.depths l.waits

abbrev pub decreases-loop-at : goal.decreases-loop-at
decreases-loop-at l = length l.src - l.at
