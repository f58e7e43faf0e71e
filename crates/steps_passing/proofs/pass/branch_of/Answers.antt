use mathlib.Core.Path.{◌≡◌, sym}
use native.Mathlib.Omega.{arith}
use Rattle.steps_passing.proofs.BranchLaws.{reach_start, reach_left, reach_right}
use Rattle.steps_passing.proofs.TwoSides.{middle_past}
use Rattle.steps_passing.proofs.pass.branch_of.Goals as goal

pub loop-b-init : goal.loop-b-init
loop-b-init c = (omega arith, reach_start _ _ _ _ _)

pub returns-then-src-b-ne-CHOICE : goal.returns-then-src-b-ne-CHOICE
returns-then-src-b-ne-CHOICE c =
    record {
      on = c.loop-b.invariant.0;
      past = λ h g. let n : c.args.at ≡ c.loop-b.b → ⊥ = λ e. c.if-src-b-ne-CHOICE.true (rw (sym e) g) in omega (
        arith,
        c.loop-b.invariant.0,
        n,
      );
      is = c.loop-b.invariant.1;
    }

pub loop-b-preserved-then-n-left : goal.loop-b-preserved-then-n-left
loop-b-preserved-then-n-left c =
    let v = c.args in (
      omega (arith, c.loop-b.invariant.0),
      reach_left v.src.now v.tally.now v.at v.silently v.number c.loop-b.b c.loop-b.n
          c.if-src-b-ne-CHOICE.false c.loop-b.invariant.1 (omega (arith, c.number_at-left.ensures, c.if-n-left.true)),
    )

pub loop-b-smaller : goal.loop-b-smaller
loop-b-smaller c =
    omega (
      arith,
      c.loop-b-test.true,
      middle_past c.args.src.now c.args.tally.now c.requires.1 c.loop-b.b c.middle_of-b.result
          c.middle_of-b.ensures c.loop-b-test.true,
    )

pub loop-b-preserved : goal.loop-b-preserved
loop-b-preserved c =
    let v = c.args in (
      omega (
        arith,
        c.loop-b.invariant.0,
        middle_past v.src.now v.tally.now c.requires.1 c.loop-b.b c.middle_of-b.result
            c.middle_of-b.ensures c.loop-b-test.true,
      ),
      reach_right v.src.now v.tally.now v.at v.silently v.number c.loop-b.b
          c.loop-b.n c.if-src-b-ne-CHOICE.false c.loop-b.invariant.1 (omega (arith, c.number_at-left.ensures, c.if-n-left.false)) c.middle_of-b.result
          c.middle_of-b.ensures _ (omega (arith, c.number_at-left.ensures)),
    )

pub returns : goal.returns
returns c = record { on = c.loop-b.invariant.0; past = λ h g. omega (arith, c.loop-b-test.false); is = c.loop-b.invariant.1 }
