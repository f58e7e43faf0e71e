use mathlib.Core.Path.{refl}
use Rattle.steps_tallies.proofs.CallLaws.{call_opened, call_closed}
use Rattle.steps_tallies.proofs.bodies.call_at.Goals as goal

pub place_of-place-requires : goal.place_of-place-requires
place_of-place-requires c = c.requires.1

pub returns-then-not-may_open : goal.returns-then-not-may_open
returns-then-not-may_open c =
    let a = c.args in
    call_closed a.question.now a.src.now a.at a.calls c.arities_of.result.now c.body_at-body.result.now c.get-k.result
    c.get-n.result c.place_of-place.result c.may_open.result c.arities_of.ensures (c.body_at-body.ensures _ c.place_of-place.ensures)
    c.get-k.ensures c.get-n.ensures c.place_of-place.ensures c.may_open.ensures c.if-not-may_open.true _ refl

pub returns : goal.returns
returns c =
    let a = c.args in
    call_opened a.question.now a.src.now a.at a.calls c.arities_of.result.now c.body_at-body.result.now c.get-k.result
    c.get-n.result c.place_of-place.result c.may_open.result c.arities_of.ensures (c.body_at-body.ensures _ c.place_of-place.ensures)
    c.get-k.ensures c.get-n.ensures c.place_of-place.ensures c.may_open.ensures c.if-not-may_open.false _ refl
