use Prim.Native.Nat.{◌-◌}
use lib.ListN.{length}
use Rattle.terms_restrictions.proofs.RestrictionWalk.{Looking}
use Rattle.terms_restrictions.proofs.restriction.has_restriction.Given as goal

abbrev pub invariant-loop-at : goal.invariant-loop-at
invariant-loop-at l = Looking l.src l.arities l.at

abbrev pub decreases-loop-at : goal.decreases-loop-at
decreases-loop-at l = length l.src - l.at
