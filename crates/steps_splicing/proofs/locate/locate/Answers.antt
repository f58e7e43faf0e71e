use native.Mathlib.Omega.{arith}
use Rattle.steps_passing.proofs.TwoSides.{middle_past, middle_inside}
use Rattle.steps_splicing.proofs.LocateLaws.{lead_start, lead_beneath, lead_left, lead_right}
use Rattle.steps_splicing.proofs.locate.locate.Goals as goal

pub loop-a-init : goal.loop-a-init
loop-a-init c = (c.requires.0, c.requires.1, lead_start _ _ _ _ _)

pub loop-a-preserved-in-8 : goal.loop-a-preserved-in-8
loop-a-preserved-in-8 c =
    let v = c.args in (
      omega (arith, c.loop-a.invariant.0),
      omega (arith, c.loop-a-test.true),
      lead_beneath v.src.now v.tally.now v.at
          v.depth v.i c.loop-a.a c.loop-a.d c.loop-a.n c.loop-a.invariant.2 c.in-8.is,
    )

pub returns-in_default : goal.returns-in_default
returns-in_default c =
    record { deep = c.loop-a.invariant.0; inside = c.loop-a.invariant.1; is = c.loop-a.invariant.2 }

pub loop-a-preserved-then-n-left : goal.loop-a-preserved-then-n-left
loop-a-preserved-then-n-left c =
    let v = c.args in (
      omega (arith, c.loop-a.invariant.0),
      omega (arith, c.loop-a-test.true),
      lead_left v.src.now v.tally.now v.at v.depth v.i
          c.loop-a.a c.loop-a.d c.loop-a.n c.loop-a.invariant.2 c.in-7.is (omega (
            arith,
            c.visible_at-left.ensures,
            c.if-n-left.true,
          )),
    )

pub loop-a-smaller : goal.loop-a-smaller
loop-a-smaller c =
    omega (
      arith,
      c.loop-a-test.true,
      middle_past c.args.src.now c.args.tally.now c.requires.3 c.loop-a.a c.middle_of-a.result
          c.middle_of-a.ensures c.loop-a-test.true,
    )

pub loop-a-preserved : goal.loop-a-preserved
loop-a-preserved c =
    let v = c.args in (
      omega (
        arith,
        c.loop-a.invariant.0,
        middle_past v.src.now v.tally.now c.requires.3 c.loop-a.a c.middle_of-a.result
            c.middle_of-a.ensures c.loop-a-test.true,
      ),
      middle_inside v.src.now v.tally.now c.requires.3 c.loop-a.a c.middle_of-a.result
          c.middle_of-a.ensures c.loop-a-test.true,
      lead_right v.src.now v.tally.now v.at v.depth v.i c.loop-a.a c.loop-a.d
          c.loop-a.n c.loop-a.invariant.2 c.in-7.is (omega (arith, c.visible_at-left.ensures, c.if-n-left.false)) c.middle_of-a.result
          c.middle_of-a.ensures _ (omega (arith, c.visible_at-left.ensures)),
    )

pub returns-after-loop-a : goal.returns-after-loop-a
returns-after-loop-a c = record { deep = c.loop-a.invariant.0; inside = c.loop-a.invariant.1; is = c.loop-a.invariant.2 }
