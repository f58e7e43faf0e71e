use native.Mathlib.Omega.{arith}
use Rattle.field_growth.proofs.GrowingLaws.{step-none, step_struck, step_mirrored, step-named, step_open, first_within}
use Rattle.field_growth.proofs.growth.grow_step.Goals as goal

pub returns-then-not-allowed : goal.returns-then-not-allowed
returns-then-not-allowed c =
    step-none _ _ _ _ _ _ _ _ _ _ _ _ _ (omega arith) (rw (c.if-not-allowed.true) at c.allowed.ensures)

pub returns-in_default : goal.returns-in_default
returns-in_default c =
    rw c.strike.ensures (step_struck _ _ _ _ _ _ _ _ _ _ _ _ _ (rw (c.if-not-allowed.false) at
    c.allowed.ensures) c.requires.0.waits (rw c.in_default.is at c.first_answer.ensures) (omega arith) (omega arith))

pub returns-then-is_trivial : goal.returns-then-is_trivial
returns-then-is_trivial c =
    step_mirrored _ _ _ _ _ _ _ _ _ _ _ _ _ (rw (c.if-not-allowed.false) at c.allowed.ensures) c.requires.0.waits _
    c.in-Some.ensures (omega arith) c.if-step.true _ c.is_trivial.ensures
    c.if-is_trivial.true

pub returns-then-differ : goal.returns-then-differ
returns-then-differ c =
    step-named _ _ _ _ _ _ _ _ _ _ _ _ _ (rw (c.if-not-allowed.false) at c.allowed.ensures) c.requires.0.waits _
    c.in-Some.ensures c.if-differ.true _ _ c.grow_names.ensures

pub returns : goal.returns
returns c =
    step_open _ _ _ _ _ _ _ _ _ _ _ _ _ (rw (c.if-not-allowed.false) at c.allowed.ensures) c.requires.0.waits _
    c.in-Some.ensures c.if-differ.false _ _ c.grow_move.ensures

pub grow_names-requires : goal.grow_names-requires
grow_names-requires c =
    record { slots = c.requires.0; step = c.requires.1; first = omega (arith, first_within _ _ _ _ _ c.in-Some.ensures); list = c.requires.2 }

pub grow_move-requires : goal.grow_move-requires
grow_move-requires c =
    record { slots = c.requires.0; step = c.requires.1; first = omega (arith, first_within _ _ _ _ _ c.in-Some.ensures); list = c.requires.2 }
