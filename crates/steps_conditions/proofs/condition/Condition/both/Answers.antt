use mathlib.Core.Path.{◌≡◌}
use native.Mathlib.Omega.{arith}
use borrow.Author.Rules.{rules}
use Rattle.steps_conditions.specs.Slots.{slot_count}
use Rattle.steps_conditions.proofs.ConditionArrays.{joined-none, joined-more, joined_same, joined-all}
use Rattle.steps_conditions.proofs.condition.Condition.both.Goals as goal
use Rattle.steps_conditions.proofs.condition.Condition.both.Goals.{then-v-i, else-v-i}

pub loop-i-init : goal.loop-i-init
loop-i-init c = (joined-none _ _, search rules)

pub loop-i-preserved : goal.loop-i-preserved
loop-i-preserved c =
    let a = c.args in
    let l = c.loop-i in
    elim c.if-v-i.branch [
      | then-v-i w ↦ (rw w.c-is (joined-more a.self.class a.other.class l.c.class _ l.i l.invariant.0 w.merge-c.ensures), search rules)
      | else-v-i w ↦ (rw w.c-is (joined_same a.self.class a.other.class l.c.class l.i w.if-v-i.false l.invariant.0), search rules)
    ]

pub returns : goal.returns
returns c =
    let e : c.loop-i.i ≡ slot_count = omega arith in
    joined-all c.args.self.class c.args.other.class _ (rw e at c.loop-i.invariant.0)
