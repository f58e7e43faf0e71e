use mathlib.Core.Path.{ap, ◌∙◌}
use native.Mathlib.Omega.{arith}
use borrow.Author.Rules.{rules}
use Rattle.terms_renaming.proofs.Filling.{fill_start, fill_step}
use Rattle.calculus.specs.Cond.{join}
use Rattle.steps_conditions.proofs.ConditionArrays.{merged_classes, merged_trivial}
use Rattle.steps_conditions.proofs.condition.Condition.merge.Goals as goal

pub returns-then-a-b : goal.returns-then-a-b
returns-then-a-b c = merged_trivial c.args.self.class c.args.a c.args.b c.if-a-b.true

pub loop-i-init : goal.loop-i-init
loop-i-init c = (fill_start _ _, search rules, search rules)

pub loop-i-preserved : goal.loop-i-preserved
loop-i-preserved c =
    let I = c.loop-i.invariant in (
      fill_step _ _ _ c.loop-i.i _ (omega (arith, I.2)) (c.merged_name-v.ensures ∙ ap (join
          _ _) (I.0.rest c.loop-i.i (omega arith))) I.0,
      search rules,
      I.2,
    )

pub returns : goal.returns
returns c =
    let a = c.args in merged_classes a.self.class a.a a.b _ (search rules) (search rules) (λ n h.
    c.loop-i.invariant.0.done n (omega arith))
