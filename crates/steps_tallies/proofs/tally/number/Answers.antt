use mathlib.Core.Path.{sym}
use lib.ListN.{get_or-eq_default}
use native.Mathlib.Omega.{arith}
use Prim.Native.Nat.{◌+◌}
use Rattle.steps_tallies.proofs.tally.number.Goals as goal

pub returns-then-n-from : goal.returns-then-n-from
returns-then-n-from c = sym (get_or-eq_default c.args.list.now 0 (omega (arith, c.if-n-from.true)))

pub returns-then-n-from-2 : goal.returns-then-n-from-2
returns-then-n-from-2 c = sym (get_or-eq_default c.args.list.now 0 (omega (arith, c.if-n-from-2.true)))

pub overflow_cast-result : goal.overflow_cast-result
overflow_cast-result c = omega (arith, c.shared_slice_known-1.given (c.args.from + c.args.i))
