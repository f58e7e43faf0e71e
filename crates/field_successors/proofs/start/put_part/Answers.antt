use native.Mathlib.Omega.{arith}
use lib.ListN.{length-set}
use Rattle.field_successors.proofs.StartLaws.{puts_part}
use Rattle.field_successors.proofs.start.put_part.Goals as goal

-- src/start.rt:31:16
pub overflow_cast-key : goal.overflow_cast-key
overflow_cast-key c = omega (arith, c.tidy-ends.ensures.room)

-- src/start.rt:32:5
pub copy-requires : goal.copy-requires
copy-requires c = (omega (arith, c.tidy-ends.ensures.room), simp length-set (omega (arith, c.tidy-ends.ensures.room)))

-- src/start.rt:24:1
pub returns : goal.returns
returns c = puts_part _ _ _ _ _ _ _ c.tidy-ends.ensures c.copy.ensures
