use native.Mathlib.Omega.{arith}
use borrow.Author.Rules.{rules}
use mathlib.Core.Path.{refl}
use Rattle.steps_conditions.proofs.ClassBytes.{implied_trivial, implied_next, implied_not, implied_all}
use Rattle.steps_conditions.proofs.condition.Condition.implies.Goals as goal

pub returns-then-is_trivial : goal.returns-then-is_trivial
returns-then-is_trivial c = implied_trivial _ _ _ _ _ c.is_trivial.ensures c.if-is_trivial.true

pub loop-n-init : goal.loop-n-init
loop-n-init c = (search rules, λ c d e f. refl)

pub returns-then-merged-class_of : goal.returns-then-merged-class_of
returns-then-merged-class_of c =
    implied_not _ _ _ _ _ (omega arith) c.loop-n.invariant.1 _ _ _ c.class_of.ensures c.class_of-merged.ensures
    c.class_of-in-loop-n.ensures c.if-merged-class_of.true

pub loop-n-preserved : goal.loop-n-preserved
loop-n-preserved c = (
  search rules,
  implied_next _ _ _ _ _ (omega arith) c.loop-n.invariant.1 _ _ _
      c.class_of.ensures c.class_of-merged.ensures c.class_of-in-loop-n.ensures c.if-merged-class_of.false,
)

pub returns : goal.returns
returns c = implied_all _ _ _ _ _ (omega arith) c.loop-n.invariant.1
