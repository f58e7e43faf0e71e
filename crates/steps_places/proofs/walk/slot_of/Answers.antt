use Rattle.steps_places.proofs.SlotLaws.{slot-start, slot-more, slot-found, slot-absent}
use mathlib.Core.Path.{sym, ◌∙◌}
use borrow.Author.Rules.{rules}
use Rattle.steps_places.proofs.walk.slot_of.Goals as goal

pub loop-j-init : goal.loop-j-init
loop-j-init c = (search rules, slot-start _ _ _)

pub returns-then-get-name : goal.returns-then-get-name
returns-then-get-name c =
    let v = c.args in
    slot-found v.table.now v.count v.name c.loop-j.j c.loop-j-test.true (sym c.get.ensures ∙
    c.if-get-name.true) c.loop-j.invariant.1

pub loop-j-preserved : goal.loop-j-preserved
loop-j-preserved c =
    let v = c.args in (
      search rules,
      slot-more v.table.now v.count v.name c.loop-j.j c.loop-j-test.true (λ e.
          c.if-get-name.false (c.get.ensures ∙ e)) c.loop-j.invariant.1,
    )

pub returns : goal.returns
returns c =
    let v = c.args in
    slot-absent v.table.now v.count v.name c.loop-j.j c.loop-j-test.false c.loop-j.invariant.0 c.loop-j.invariant.1
