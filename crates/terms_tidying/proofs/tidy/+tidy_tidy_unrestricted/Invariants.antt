use Prim.Native.Nat.{◌+◌, ◌-◌, ◌*◌}
use lib.ListN.{length}
use Rattle.terms_tidying.proofs.tidy.+tidy_tidy_unrestricted.Given as goal

abbrev pub decreases-tidy : goal.decreases-tidy
decreases-tidy l = 2 * (length l.src.now - l.at)

abbrev pub decreases-tidy_unrestricted : goal.decreases-tidy_unrestricted
decreases-tidy_unrestricted l = 2 * (length l.src.now - l.at) + 1
