use mathlib.Core.Path.{refl}
use native.Mathlib.Omega.{arith}
use Rattle.steps_rows.specs.Rows.{prefix_kind}
use Rattle.steps_rows.proofs.rows.prefix_kind.Goals as goal

pub returns-then-asked : goal.returns-then-asked
unfolding prefix_kind
returns-then-asked c = rw c.if-asked.true (omega (arith, c.requires.0))

pub returns-else-asked : goal.returns-else-asked
unfolding prefix_kind
returns-else-asked c = rw c.if-asked.false refl
