use mathlib.Core.Bool.{Bool}
use mathlib.Core.Path.{refl, sym, subst}
use Prim.Native.Nat.{◌+◌}
use Rattle.steps_passing.specs.Passing.{PassIs, nothing_sent, opens_at}
use Rattle.steps_results.proofs.SilentSteps.{pass_silent}
use Rattle.steps_results.proofs.result.extruded.Goals as goal

pub returns-then-task : goal.returns-then-task
unfolding opens_at
returns-then-task c =
    let v = c.args in
    record {
      passed = nothing_sent;
      does = subst (λ (b : Bool). PassIs v.question.now v.src.now (v.at + 1) (v.binders + 1) v.task.calls b
          v.task.number nothing_sent) (sym c.if-task.true) (pass_silent v.question.now v.src.now (v.at + 1) (v.binders + 1) v.task.calls
          v.task.number c.requires.3);
      is = refl;
    }

pub returns : goal.returns
returns c =
    let v = c.args in
    record {
      passed = c.pass-p.result;
      does = subst (λ (b : Bool). PassIs v.question.now v.src.now (v.at + 1) (v.binders + 1)
          v.task.calls b v.task.number c.pass-p.result) (sym c.if-task.false) c.pass-p.ensures;
      is = c.opens.ensures;
    }
