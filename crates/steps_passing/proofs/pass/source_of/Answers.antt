use native.Mathlib.Omega.{arith}
use Rattle.steps_passing.proofs.SourceLaws.{act-start, act-match, act-left, act_right}
use Rattle.steps_passing.proofs.TwoSides.{middle_past}
use Rattle.steps_passing.proofs.pass.source_of.Goals as goal

pub loop-b-init : goal.loop-b-init
loop-b-init c = (omega arith, act-start _ _ _ _)

pub returns-then-t-lt-MATCH : goal.returns-then-t-lt-MATCH
returns-then-t-lt-MATCH c =
    record { on = c.loop-b.invariant.0; ended = λ h l g. omega (arith, c.if-t-lt-MATCH.true); is = c.loop-b.invariant.1 }

pub returns-then-t-gt-PARALLEL : goal.returns-then-t-gt-PARALLEL
returns-then-t-gt-PARALLEL c =
    record { on = c.loop-b.invariant.0; ended = λ h l g. omega (arith, c.if-t-gt-PARALLEL.true); is = c.loop-b.invariant.1 }

pub loop-b-preserved-then-t-eq-MATCH : goal.loop-b-preserved-then-t-eq-MATCH
loop-b-preserved-then-t-eq-MATCH c =
    let v = c.args in (
      omega (arith, c.loop-b.invariant.0),
      act-match v.src.now v.tally.now v.at v.number c.loop-b.b c.loop-b.n c.loop-b.invariant.1
          c.if-t-eq-MATCH.true,
    )

pub loop-b-preserved-then-n-left : goal.loop-b-preserved-then-n-left
loop-b-preserved-then-n-left c =
    let v = c.args in (
      omega (arith, c.loop-b.invariant.0),
      act-left v.src.now v.tally.now v.at v.number c.loop-b.b c.loop-b.n c.loop-b.invariant.1 (
        omega
            (arith, c.if-t-lt-MATCH.false, c.if-t-eq-MATCH.false),
        omega (arith, c.if-t-gt-PARALLEL.false),
      ) (omega (
        arith,
        c.visible_at-left.ensures,
        c.if-n-left.true,
      )),
    )

pub loop-b-smaller : goal.loop-b-smaller
loop-b-smaller c =
    omega (
      arith,
      c.loop-b-test.true,
      middle_past c.args.src.now c.args.tally.now c.requires.1 c.loop-b.b c.middle_of-b.result
          c.middle_of-b.ensures c.loop-b-test.true,
    )

pub loop-b-preserved : goal.loop-b-preserved
loop-b-preserved c =
    let v = c.args in (
      omega (
        arith,
        c.loop-b.invariant.0,
        middle_past v.src.now v.tally.now c.requires.1 c.loop-b.b c.middle_of-b.result
            c.middle_of-b.ensures c.loop-b-test.true,
      ),
      act_right v.src.now v.tally.now v.at v.number c.loop-b.b c.loop-b.n
          c.loop-b.invariant.1 (omega (arith, c.if-t-lt-MATCH.false, c.if-t-eq-MATCH.false), omega (arith, c.if-t-gt-PARALLEL.false)) (omega (
            arith,
            c.visible_at-left.ensures,
            c.if-n-left.false,
          )) c.middle_of-b.result c.middle_of-b.ensures _ (omega (arith, c.visible_at-left.ensures)),
    )

pub returns : goal.returns
returns c = record { on = c.loop-b.invariant.0; ended = λ h l g. omega (arith, c.loop-b-test.false); is = c.loop-b.invariant.1 }
