use mathlib.Core.Path.{sym}
use Rattle.calculus.proofs.Binding.{put_self, put_other}
use Rattle.field_pairs.proofs.names.replaced.Goals as goal

pub returns-then-n-y : goal.returns-then-n-y
returns-then-n-y c = sym (put_self _ _ _ c.if-n-y.true)

pub returns-else-n-y : goal.returns-else-n-y
returns-else-n-y c = sym (put_other _ _ _ c.if-n-y.false)
