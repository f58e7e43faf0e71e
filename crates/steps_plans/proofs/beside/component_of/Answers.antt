use mathlib.Core.Path.{ap}
use Prim.Native.Nat.{ℕ, ◌-◌}
use native.Mathlib.Omega.{arith}
use Rattle.steps_plans.proofs.BesideLaws.{beside-start, beside-left, beside_right}
use Rattle.steps_passing.proofs.TwoSides.{middle_past, middle_inside}
use Rattle.steps_plans.proofs.beside.component_of.Goals as goal

pub loop-b-init : goal.loop-b-init
loop-b-init c = (c.requires.0, beside-start _ _ _ _ _)

pub returns-then-src-b-ne-PARALLEL : goal.returns-then-src-b-ne-PARALLEL
returns-then-src-b-ne-PARALLEL c = c.loop-b.invariant

pub loop-b-preserved-then-n-left : goal.loop-b-preserved-then-n-left
loop-b-preserved-then-n-left c =
    let v = c.args in (
      omega (arith, c.loop-b-test.true),
      beside-left v.src.now v.tally.now v.at v.silently v.number c.loop-b.b c.loop-b.n
          c.if-src-b-ne-PARALLEL.false c.loop-b-test.true c.loop-b.invariant.1 (omega (arith, c.number_at-left.ensures, c.if-n-left.true)),
    )

pub returns-then-number_at-i : goal.returns-then-number_at-i
returns-then-number_at-i c = c.loop-b.invariant

pub loop-b-smaller : goal.loop-b-smaller
loop-b-smaller c =
    omega (
      arith,
      c.loop-b-test.true,
      middle_past c.args.src.now c.args.tally.now c.requires.2 c.loop-b.b c.middle_of-middle.result
          c.middle_of-middle.ensures c.loop-b-test.true,
    )

pub loop-b-preserved : goal.loop-b-preserved
loop-b-preserved c =
    let v = c.args in (
      middle_inside v.src.now v.tally.now c.requires.2 c.loop-b.b c.middle_of-middle.result c.middle_of-middle.ensures c.loop-b-test.true,
      beside_right v.src.now v.tally.now v.at v.silently v.number c.loop-b.b c.loop-b.n c.if-src-b-ne-PARALLEL.false c.loop-b-test.true
          c.loop-b.invariant.1 (omega (arith, c.number_at-left.ensures, c.if-n-left.false)) c.middle_of-middle.result c.middle_of-middle.ensures _ (ap (λ (k : ℕ).
          c.loop-b.n - k) c.number_at-left.ensures) (omega (arith, c.number_at.ensures, c.if-number_at-i.false)),
    )

pub returns : goal.returns
returns c = c.loop-b.invariant
