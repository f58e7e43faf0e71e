use mathlib.Core.Path.{subst}
use Prim.Native.Nat.{ℕ, ◌+◌, ◌-◌}
use native.Mathlib.Nat.{le_refl}
use native.Mathlib.Omega.{arith}
use lib.ListN.{set, length-set}
use Rattle.terms.specs.Limits.{longest_term}
use Rattle.steps_tallies.specs.Tallying.{Filled}
use Rattle.steps_tallies.proofs.TallyLaws.{entry-fits}
use Rattle.steps_tallies.proofs.TallyLoops.{filled_none, stored-size, filled_more}
use Rattle.steps_tallies.proofs.tally.fill.Goals as goal

pub loop-at-init : goal.loop-at-init
loop-at-init c = (le_refl _, c.requires.2, filled_none _ _ _ _)

pub entry_at-e-requires : goal.entry_at-e-requires
entry_at-e-requires c =
    let v = c.args in (
      omega (arith, c.loop-at.invariant.0, c.loop-at-test.true),
      c.requires.0,
      c.requires.1,
      subst (λ (n : ℕ). Filled v.src.now v.arities.now
          v.bodies.now n c.loop-at.tally) (omega (arith, c.loop-at-test.true)) c.loop-at.invariant.2,
    )

pub overflow_cast-tally : goal.overflow_cast-tally
overflow_cast-tally c =
    let v = c.args in
    let f = entry-fits v.src.now v.arities.now v.bodies.now (c.loop-at.at - 1) c.entry_at-e.result c.requires.0 (omega (
      arith,
      c.loop-at.invariant.0,
      c.requires.0,
    )) c.requires.1 c.entry_at-e.ensures.1 in
    omega (arith, f)

pub offset_bounds-tally-at : goal.offset_bounds-tally-at
offset_bounds-tally-at c =
    omega (arith, c.loop-at.invariant.0, c.loop-at.invariant.1, c.loop-at-test.true, c.requires.0)

pub bounds-tally-at : goal.bounds-tally-at
bounds-tally-at c =
    omega (arith, c.loop-at.invariant.0, c.loop-at.invariant.1, c.loop-at-test.true, c.requires.0)

pub overflow_cast-tally-in-loop-at : goal.overflow_cast-tally-in-loop-at
overflow_cast-tally-in-loop-at c =
    let v = c.args in
    let f = entry-fits v.src.now v.arities.now v.bodies.now (c.loop-at.at - 1) c.entry_at-e.result c.requires.0 (omega (
      arith,
      c.loop-at.invariant.0,
      c.requires.0,
    )) c.requires.1 c.entry_at-e.ensures.1 in
    omega (arith, f)

pub overflow_add-tally : goal.overflow_add-tally
overflow_add-tally c =
    omega (arith, c.loop-at.invariant.0, c.loop-at.invariant.1, c.loop-at-test.true, c.requires.0)

pub offset_bounds-tally-at-in-loop-at : goal.offset_bounds-tally-at-in-loop-at
offset_bounds-tally-at-in-loop-at c =
    omega (arith, c.loop-at.invariant.0, c.loop-at.invariant.1, c.loop-at-test.true, c.requires.0)

pub bounds-tally-at-in-loop-at : goal.bounds-tally-at-in-loop-at
bounds-tally-at-in-loop-at c =
    omega (
      arith,
      c.loop-at.invariant.0,
      c.loop-at.invariant.1,
      c.loop-at-test.true,
      c.requires.0,
      length-set c.loop-at.tally (c.loop-at.at - 1)
          c.entry_at-e.result.visible,
    )

pub overflow_cast-tally-in-loop-at-2 : goal.overflow_cast-tally-in-loop-at-2
overflow_cast-tally-in-loop-at-2 c =
    let v = c.args in
    let f = entry-fits v.src.now v.arities.now v.bodies.now (c.loop-at.at - 1) c.entry_at-e.result c.requires.0 (omega (
      arith,
      c.loop-at.invariant.0,
      c.requires.0,
    )) c.requires.1 c.entry_at-e.ensures.1 in
    omega (arith, f)

pub overflow_add-tally-in-loop-at : goal.overflow_add-tally-in-loop-at
overflow_add-tally-in-loop-at c =
    omega (arith, c.loop-at.invariant.0, c.loop-at.invariant.1, c.loop-at-test.true, c.requires.0)

pub overflow_add-tally-in-loop-at-2 : goal.overflow_add-tally-in-loop-at-2
overflow_add-tally-in-loop-at-2 c =
    omega (arith, c.loop-at.invariant.0, c.loop-at.invariant.1, c.loop-at-test.true, c.requires.0)

pub offset_bounds-tally-at-in-loop-at-2 : goal.offset_bounds-tally-at-in-loop-at-2
offset_bounds-tally-at-in-loop-at-2 c =
    omega (arith, c.loop-at.invariant.0, c.loop-at.invariant.1, c.loop-at-test.true, c.requires.0)

pub bounds-tally-at-in-loop-at-2 : goal.bounds-tally-at-in-loop-at-2
bounds-tally-at-in-loop-at-2 c =
    omega (
      arith,
      c.loop-at.invariant.0,
      c.loop-at.invariant.1,
      c.loop-at-test.true,
      c.requires.0,
      length-set c.loop-at.tally (c.loop-at.at - 1)
          c.entry_at-e.result.visible,
      length-set (set c.loop-at.tally (c.loop-at.at - 1) c.entry_at-e.result.visible) (longest_term +
          (c.loop-at.at - 1)) c.entry_at-e.result.silent,
    )

pub loop-at-preserved : goal.loop-at-preserved
loop-at-preserved c =
    let v = c.args in (
      omega (arith, c.loop-at.invariant.0),
      stored-size v.src.now v.arities.now v.bodies.now c.loop-at.tally (c.loop-at.at - 1)
          c.entry_at-e.result c.loop-at.invariant.1 (omega (arith, c.loop-at.invariant.0, c.loop-at-test.true, c.requires.0)),
      filled_more v.src.now
          v.arities.now v.bodies.now c.loop-at.tally (c.loop-at.at - 1) c.entry_at-e.result c.loop-at.invariant.1 (omega (
            arith,
            c.loop-at.invariant.0,
            c.loop-at-test.true,
            c.requires.0,
          )) c.requires.0 (subst (λ (n : ℕ). Filled v.src.now v.arities.now v.bodies.now n c.loop-at.tally)
          (omega (arith, c.loop-at-test.true)) c.loop-at.invariant.2) c.entry_at-e.ensures,
    )

pub returns : goal.returns
returns c =
    let v = c.args in
    subst (λ (n : ℕ). Filled v.src.now v.arities.now v.bodies.now n c.loop-at.tally) (omega (arith, c.loop-at-test.false))
    c.loop-at.invariant.2
