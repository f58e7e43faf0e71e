use mathlib.Core.Path.{◌≡◌}
use Prim.Native.Nat.{◌≤◌}
use lib.ListN.{length}
use Rattle.field_renewal.proofs.RenewingLaws.{Renewing}
use Rattle.field_renewal.proofs.renewing.renew_steps.Given as goal

abbrev pub invariant-loop-i : goal.invariant-loop-i
invariant-loop-i l = (l.i ≤ l.n) × (length l.area ≡ length l.initial.area) × Renewing l.src l.n l.arities l.y l.x l.i l.area
