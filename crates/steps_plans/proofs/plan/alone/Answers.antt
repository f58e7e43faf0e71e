use mathlib.Core.Path.{refl, subst}
use native.Mathlib.Omega.{arith}
use Rattle.steps_plans.specs.Beside.{FoundBeside}
use Rattle.steps_conditions.specs.Names.{UnchangedIs}
use Rattle.steps_plans.proofs.plan.alone.Goals as goal

pub returns-then-unchanged : goal.returns-then-unchanged
unfolding FoundBeside
returns-then-unchanged c =
    let v = c.args in
    record {
      inside = c.component_of.ensures.0;
      is = λ walks past. c.component_of.ensures.1 v.binders v.names.now v.task walks refl
          refl (subst (UnchangedIs v.names.now v.binders v.task.levels) c.if-unchanged.true c.unchanged.ensures);
    }

pub returns : goal.returns
returns c = record { inside = c.requires.0; is = λ walks past. absurd (omega arith) }
