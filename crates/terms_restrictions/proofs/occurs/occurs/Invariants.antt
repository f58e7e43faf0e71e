use mathlib.Core.Path.{◌≡◌}
use Prim.Native.Nat.{◌-◌}
use lib.ListN.{length, take}
use Rattle.calculus.specs.Distinction.{among}
use Rattle.terms_restrictions.proofs.occurs.occurs.Given as goal

abbrev pub invariant-loop-x : goal.invariant-loop-x
invariant-loop-x l = l.found ≡ among (take l.x-index l.src) l.b
