use Prim.Native.Nat.{◌-◌}
use lib.ListN.{length}
use Rattle.terms_restrictions.proofs.unused.+unused_to.Given as goal

abbrev pub decreases-unused_to : goal.decreases-unused_to
decreases-unused_to l = length l.src.now - l.at
