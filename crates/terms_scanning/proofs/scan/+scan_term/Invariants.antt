use lib.ListN.{length}
use Prim.Native.Nat.{◌-◌}
use Rattle.terms_scanning.proofs.scan.+scan_term.Given as goal

abbrev pub decreases-scan_term : goal.decreases-scan_term
decreases-scan_term l = length l.src.now - l.at
