use native.Mathlib.Omega.{arith}
use borrow.Author.Tests.{eqb-true}
use Rattle.steps_conditions.specs.Names.{LevelsIs}
use Rattle.steps_passing.proofs.names.same_levels.Goals as goal

pub returns-then-binders-eq0 : goal.returns-then-binders-eq0
unfolding LevelsIs
returns-then-binders-eq0 c = λ e h. absurd (omega (arith, c.if-binders-eq0.true))

pub returns : goal.returns
unfolding LevelsIs
returns c = λ e h. eqb-true _ _ e
