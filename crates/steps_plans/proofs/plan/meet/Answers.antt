use mathlib.Core.Bool.{true, false}
use mathlib.Core.Path.{◌≡◌, ap, ◌∙◌}
use native.Mathlib.Omega.{arith}
use lib.ListN.{get_or}
use borrow.Author.Tests.{eq-eqb, ne_eqb}
use Rattle.steps_plans.specs.Plans.{sending, closing, meeting_plan}
use Rattle.steps_plans.specs.declared.plan.Task.{Task}
use Rattle.steps_plans.proofs.ResultLaws.{plan_same}
use Rattle.steps_plans.proofs.plan.meet.Goals as goal

pub returns-then-x-eq-OUTPUT : goal.returns-then-x-eq-OUTPUT
unfolding meeting_plan
returns-then-x-eq-OUTPUT c =
    let v = c.args in
    rw (eq-eqb v.x.kind 2 c.if-x-eq-OUTPUT.true) (plan_same false _ _ _ _ _ c.side-left.ensures (c.receive.ensures ∙ ap (sending (get_or
    v.names.now v.x.object 0)) c.side-right.ensures))

pub returns-then-z-eq-OUTPUT : goal.returns-then-z-eq-OUTPUT
unfolding meeting_plan
returns-then-z-eq-OUTPUT c =
    let v = c.args in
    rw (ne_eqb v.x.kind 2 c.if-x-eq-OUTPUT.false, eq-eqb v.z.kind 2 c.if-z-eq-OUTPUT.true) (plan_same false _ _ _ _ _ (c.receive-then-z-eq-OUTPUT.ensures ∙ ap
    (sending (get_or v.names.now v.z.object 0)) c.side-left.ensures) c.side-right.ensures)

pub close-requires : goal.close-requires
close-requires c =
    let l : c.side-left.result.levels ≡ c.args.task.levels = ap (λ (t : Task). t.levels) c.side-left.ensures in
    omega (arith, l, c.requires)

pub close-requires-2 : goal.close-requires-2
close-requires-2 c =
    let l : c.side-right.result.levels ≡ c.args.task.levels = ap (λ (t : Task). t.levels) c.side-right.ensures in
    omega (arith, l, c.requires)

pub returns : goal.returns
unfolding meeting_plan
returns c =
    rw (ne_eqb c.args.x.kind 2 c.if-x-eq-OUTPUT.false, ne_eqb c.args.z.kind 2 c.if-z-eq-OUTPUT.false) (plan_same true _ _ _ _ _
    (c.close.ensures ∙ ap closing c.side-left.ensures) (c.close-2.ensures ∙ ap closing c.side-right.ensures))
