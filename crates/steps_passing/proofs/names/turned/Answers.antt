use mathlib.Core.Path.{sym}
use Rattle.steps_conditions.proofs.NameSlots.{turn_free, turn_bound, turn-past}
use Rattle.steps_passing.proofs.names.turned.Goals as goal

pub returns-then-w-from : goal.returns-then-w-from
returns-then-w-from c = sym (turn_free c.args.from c.args.to c.args.binders c.args.w c.if-w-from.true)

pub returns-then-j-binders : goal.returns-then-j-binders
returns-then-j-binders c =
    let v = c.args in
    sym (turn_bound v.from v.to v.binders v.w c.if-w-from.false c.if-j-binders.true)

pub returns : goal.returns
returns c =
    let v = c.args in
    sym (turn-past v.from v.to v.binders v.w c.if-w-from.false c.if-j-binders.false)
