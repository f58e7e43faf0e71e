use native.Mathlib.Omega.{arith}
use Rattle.field_growth.proofs.GrowingLaws.{move_answered, move_noted, move_gone, slot_small}
use Rattle.field_growth.proofs.growth.grow_move.Goals as goal

pub returns-in_err-added : goal.returns-in_err-added
returns-in_err-added c =
    rw c.from_residual.ensures (move_answered _ _ _ _ _ _ _ _ _ _ _ _ _ _ c.requires.slots.waits _ _ (rw c.in_err-added.was at c.grow_answers.ensures).grown)

pub overflow_add-slot : goal.overflow_add-slot
overflow_add-slot c =
    let a = rw c.in_ok-added.was at c.grow_answers.ensures in
    record { fits = omega (arith, slot_small _ _ c.in-To.is a.slot) }

pub note_sole-requires : goal.note_sole-requires
note_sole-requires c =
    let a = rw c.in_ok-added.was at c.grow_answers.ensures in
    (omega arith, omega (arith, slot_small _ _ c.in-To.is a.slot))

pub returns-in-To : goal.returns-in-To
returns-in-To c =
    move_noted _ _ _ _ _ _ _ _ _ _ _ _ _ _ c.requires.slots.waits _ _ (omega (
      arith,
      c.requires.slots.waits,
      c.requires.slots.few,
    )) (rw c.in_ok-added.was at c.grow_answers.ensures) _ c.in-To.is _ c.note_sole.ensures

pub returns-in_default : goal.returns-in_default
returns-in_default c =
    move_answered _ _ _ _ _ _ _ _ _ _ _ _ _ _ c.requires.slots.waits _ _ (rw c.in_ok-added.was at c.grow_answers.ensures).grown

pub returns : goal.returns
returns c =
    rw c.strike.ensures (move_gone _ _ _ _ _ _ _ _ _ _ _ _ _ _ c.requires.slots.waits _ _
    c.if-added.false (omega arith) (omega arith) (rw c.in_ok-added.was at c.grow_answers.ensures))
