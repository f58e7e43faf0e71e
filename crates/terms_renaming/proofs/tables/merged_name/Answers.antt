use mathlib.Core.Path.{sym, ◌∙◌}
use Prim.Native.Nat.{max}
use borrow.Author.Tests.{eq-eqb, ne_eqb}
use Rattle.calculus.specs.Cond.{join}
use Rattle.terms_renaming.proofs.tables.merged_name.Goals as goal

pub returns-then-n-max : goal.returns-then-n-max
unfolding join
returns-then-n-max c = let v = c.args in rw (eq-eqb v.n (max v.a v.b) (c.if-n-max.true ∙ c.max.ensures)) c.min.ensures

pub returns-else-n-max : goal.returns-else-n-max
unfolding join
returns-else-n-max c = let v = c.args in rw (ne_eqb v.n (max v.a v.b) (λ q. c.if-n-max.false (q ∙ sym c.max.ensures)))
