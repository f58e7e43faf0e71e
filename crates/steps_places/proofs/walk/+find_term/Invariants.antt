use lib.ListN.{length}
use Prim.Native.Nat.{◌-◌}
use Rattle.steps_places.proofs.walk.+find_term.Given as goal

abbrev pub decreases-find_term : goal.decreases-find_term
decreases-find_term l = length l.src.now - l.at
