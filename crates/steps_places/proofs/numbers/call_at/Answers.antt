use Rattle.steps_places.proofs.NumberLaws.{left-start, left-more, call_there, call_none}
use borrow.Author.Rules.{rules}
use Rattle.steps_places.proofs.numbers.call_at.Goals as goal

pub loop-j-init : goal.loop-j-init
loop-j-init c = (search rules, left-start _ _ _)

pub returns-then-left-w : goal.returns-then-left-w
returns-then-left-w c =
    let v = c.args in
    call_there v.set v.weights.now v.number c.loop-j.j c.loop-j.left c.weight_in-w.result c.loop-j-test.true
    c.weight_in-w.ensures c.if-left-w.true c.loop-j.invariant.1

pub loop-j-preserved : goal.loop-j-preserved
loop-j-preserved c =
    let v = c.args in (
      search rules,
      left-more v.set v.weights.now v.number c.loop-j.j c.loop-j.left
          c.weight_in-w.result c.weight_in-w.ensures c.if-left-w.false c.loop-j.invariant.1,
    )

pub returns : goal.returns
returns c =
    let v = c.args in
    call_none v.set v.weights.now v.number c.loop-j.j c.loop-j.left c.loop-j-test.false c.loop-j.invariant.0 c.loop-j.invariant.1
