use lib.ListN.{length}
use Prim.Native.Nat.{◌-◌}
use Rattle.terms_checks.proofs.check.+scan_bodies.Given as goal

abbrev pub decreases-scan_bodies : goal.decreases-scan_bodies
decreases-scan_bodies l = length l.list.now - l.i
