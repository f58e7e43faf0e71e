use mathlib.Core.Bool.{false}
use mathlib.Core.Path.{sym, ap, subst}
use Prim.Native.Nat.{ℕ, ◌-◌, ◌<◌, ◌≤◌}
use native.Mathlib.Omega.{arith}
use Rattle.steps_plans.specs.Plans.{SplitIs, PlanIs}
use Rattle.steps_plans.specs.declared.plan.Task.{Task}
use Rattle.steps_passing.proofs.TwoSides.{middle_on}
use Rattle.steps_plans.proofs.ResultLaws.{plan_same}
use Rattle.steps_plans.proofs.PlanLaws.{plan_left, plan_right, plan_met}
use Rattle.steps_plans.proofs.plan.plan_of.Goals as goal

pub middle_of-middle-requires : goal.middle_of-middle-requires
middle_of-middle-requires c = (c.requires.1, c.requires.0)

pub returns-then-number-left : goal.returns-then-number-left
returns-then-number-left c =
    let a = c.args in
    subst (λ (t : Task). PlanIs a.question.now a.src.now a.at a.binders a.names.now a.task (record {
      close = false;
      middle =
          c.middle_of-middle.result;
      left = a.task;
      right = t;
    })) (sym c.rest.ensures) (plan_left a.question.now a.src.now a.at a.binders
    a.names.now a.task c.requires.4 a.tally.now c.requires.6 c.middle_of-middle.result c.middle_of-middle.ensures c.requires.1 (subst (λ (n :
    ℕ). a.task.number < n) c.number_at-left.ensures c.if-number-left.true))

pub returns-then-i-right : goal.returns-then-i-right
returns-then-i-right c =
    let a = c.args in
    subst (PlanIs a.question.now a.src.now a.at a.binders a.names.now a.task) (sym (plan_same false c.middle_of-middle.result _ _ _
    _ c.rest-then-i-right.ensures c.with_number.ensures)) (plan_right a.question.now a.src.now a.at a.binders a.names.now
    a.task c.requires.4 a.tally.now c.requires.6 c.middle_of-middle.result c.middle_of-middle.ensures c.requires.1 (subst (λ (n : ℕ). n ≤
    a.task.number) c.number_at-left.ensures c.if-number-left.false) _ (ap (λ (n : ℕ). a.task.number - n) c.number_at-left.ensures) (subst (λ (n : ℕ).
    a.task.number - c.number_at-left.result < n) c.number_at-right.ensures c.if-i-right.true))

pub pass-x-requires : goal.pass-x-requires
pass-x-requires c =
    (c.requires.0, omega (arith, c.requires.2), c.requires.5, c.requires.6, c.requires.7)

pub pass-z-requires : goal.pass-z-requires
pass-z-requires c =
    let a = c.args in
    let h = middle_on a.question.now a.src.now a.task.calls a.tally.now c.requires.6 a.at c.middle_of-middle.result
    c.middle_of-middle.ensures c.requires.1 in
    (c.requires.0, omega (arith, c.requires.2, h), c.requires.5, c.requires.6, c.requires.7)

pub meet-requires : goal.meet-requires
meet-requires c = c.requires.3

pub returns : goal.returns
returns c =
    let a = c.args in
    subst (PlanIs a.question.now a.src.now a.at a.binders a.names.now a.task) (sym c.meet.ensures) (plan_met
    a.question.now a.src.now a.at a.binders a.names.now a.task c.requires.4 a.tally.now c.requires.6
    c.middle_of-middle.result c.middle_of-middle.ensures c.requires.1 (subst (λ (n : ℕ). n ≤ a.task.number) c.number_at-left.ensures c.if-number-left.false) _
    (ap (λ (n : ℕ). a.task.number - n) c.number_at-left.ensures) (subst (λ (n : ℕ). n ≤ a.task.number - c.number_at-left.result)
    c.number_at-right.ensures c.if-i-right.false) _ (ap (λ (n : ℕ). a.task.number - c.number_at-left.result - n) c.number_at-right.ensures)
    c.split-n.result (subst (λ (n : ℕ). SplitIs (a.task.number - c.number_at-left.result - c.number_at-right.result) n c.split-n.result)
    c.visible_at.ensures c.split-n.ensures) c.pass-x.result c.pass-x.ensures c.pass-z.result c.pass-z.ensures)
