use borrow.Author.Rules.{rules}
use mathlib.Core.Path.{◌∙◌}
use native.Mathlib.Omega.{arith}
use Rattle.steps_communications.proofs.MeetLaws.{next_test, apart_more}
use Rattle.steps_communications.proofs.meet.next_met.Goals as goal

pub loop-w-init : goal.loop-w-init
loop-w-init c = (search rules, search rules, λ v h l. absurd (omega arith))

pub returns-then-may_meet-clause-is : goal.returns-then-may_meet-clause-is
returns-then-may_meet-clause-is c =
    let v = c.args in
    record {
      on = c.loop-w.invariant.0;
      inside = c.loop-w.invariant.1;
      apart = c.loop-w.invariant.2;
      meets = λ _. next_test v.rows.now v.kind v.channel
          c.first_merged-low.result c.last_merged-high.result c.loop-w.w c.first_merged-low.ensures c.last_merged-high.ensures c.may_meet.result
          c.may_meet.ensures ∙ c.if-may_meet.true;
    }

pub loop-w-preserved : goal.loop-w-preserved
loop-w-preserved c =
    let v = c.args in (
      search rules,
      search rules,
      apart_more v.rows.now
          v.kind v.channel v.from c.loop-w.w c.loop-w.invariant.2
          (next_test v.rows.now v.kind v.channel c.first_merged-low.result
          c.last_merged-high.result c.loop-w.w
          c.first_merged-low.ensures
          c.last_merged-high.ensures c.may_meet.result c.may_meet.ensures ∙
          c.if-may_meet.false),
    )

pub returns-clause-is : goal.returns-clause-is
returns-clause-is c =
    record {
      on = c.requires.0;
      inside = omega arith;
      apart = λ v h l. c.loop-w.invariant.2 v h (omega (arith, c.loop-w-test.false));
      meets = λ h. absurd (omega arith);
    }
