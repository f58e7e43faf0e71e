use mathlib.Core.Path.{ap}
use Prim.Native.Nat.{ℕ, ◌-◌}
use native.Mathlib.Omega.{arith}
use Rattle.steps_labels.proofs.SideLaws.{lead_start, side_one, lead_left, lead_right, side_met}
use Rattle.steps_passing.proofs.TwoSides.{middle_past}
use Rattle.steps_labels.proofs.label.origin_of.Goals as goal

pub loop-b-init : goal.loop-b-init
loop-b-init c = (omega arith, lead_start _ _ _ _ _)

pub returns-then-t-lt-CHOICE : goal.returns-then-t-lt-CHOICE
returns-then-t-lt-CHOICE c =
    let v = c.args in
    rw c.single.ensures (side_one v.src.now v.tally.now v.at v.i v.silent c.loop-b.b c.loop-b.n c.loop-b.invariant.0
    c.loop-b.invariant.1 (λ h l g. omega (arith, c.if-t-lt-CHOICE.true)))

pub returns-then-t-gt-PARALLEL : goal.returns-then-t-gt-PARALLEL
returns-then-t-gt-PARALLEL c =
    let v = c.args in
    rw c.single-then-t-gt-PARALLEL.ensures (side_one v.src.now v.tally.now v.at v.i v.silent c.loop-b.b c.loop-b.n c.loop-b.invariant.0
    c.loop-b.invariant.1 (λ h l g. omega (arith, c.if-t-gt-PARALLEL.true)))

pub loop-b-preserved-then-n-left : goal.loop-b-preserved-then-n-left
loop-b-preserved-then-n-left c =
    let v = c.args in (
      omega (arith, c.loop-b.invariant.0),
      lead_left v.src.now v.tally.now v.at v.i v.silent c.loop-b.b c.loop-b.n
          c.loop-b.invariant.0 c.loop-b.invariant.1 (omega (arith, c.if-t-lt-CHOICE.false)) (omega (arith, c.if-t-gt-PARALLEL.false)) (omega (
            arith,
            c.number_at-left.ensures,
            c.if-n-left.true,
          )),
    )

pub returns-then-right-n : goal.returns-then-right-n
returns-then-right-n c =
    let v = c.args in
    side_met v.src.now v.tally.now v.at v.i v.silent c.loop-b.b c.loop-b.n c.loop-b.invariant.0 c.loop-b.invariant.1 (omega (
      arith,
      c.if-t-lt-CHOICE.false,
    )) (omega (arith, c.if-t-gt-PARALLEL.false)) c.middle_of-middle.result c.middle_of-middle.ensures (omega (
      arith,
      c.number_at-left.ensures,
      c.if-n-left.false,
    )) _ (ap (λ (n : ℕ). c.loop-b.n - n) c.number_at-left.ensures) (rw c.number_at-right.ensures at c.if-right-n.true)
    c.loop-b-test.true (middle_past v.src.now v.tally.now c.requires.1 c.loop-b.b c.middle_of-middle.result c.middle_of-middle.ensures
    c.loop-b-test.true) _ (omega (arith, c.number_at-right.ensures))

pub loop-b-smaller : goal.loop-b-smaller
loop-b-smaller c =
    omega (
      arith,
      c.loop-b-test.true,
      middle_past c.args.src.now c.args.tally.now c.requires.1 c.loop-b.b c.middle_of-middle.result
          c.middle_of-middle.ensures c.loop-b-test.true,
    )

pub loop-b-preserved : goal.loop-b-preserved
loop-b-preserved c =
    let v = c.args in (
      omega (
        arith,
        c.loop-b.invariant.0,
        middle_past v.src.now v.tally.now c.requires.1 c.loop-b.b c.middle_of-middle.result
            c.middle_of-middle.ensures c.loop-b-test.true,
      ),
      lead_right v.src.now v.tally.now v.at v.i v.silent c.loop-b.b c.loop-b.n
          c.loop-b.invariant.0 c.loop-b.invariant.1 (omega (arith, c.if-t-lt-CHOICE.false)) (omega (arith, c.if-t-gt-PARALLEL.false)) c.middle_of-middle.result
          c.middle_of-middle.ensures (omega (arith, c.number_at-left.ensures, c.if-n-left.false)) _ (ap (λ (n : ℕ). c.loop-b.n - n) c.number_at-left.ensures) (rw
          c.number_at-right.ensures at c.if-right-n.false),
    )

pub returns : goal.returns
returns c =
    let v = c.args in
    rw c.single-2.ensures (side_one v.src.now v.tally.now v.at v.i v.silent c.loop-b.b c.loop-b.n c.loop-b.invariant.0
    c.loop-b.invariant.1 (λ h l g. omega (arith, c.loop-b-test.false)))
