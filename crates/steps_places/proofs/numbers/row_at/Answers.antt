use Rattle.steps_places.proofs.NumberLaws.{rows_start, rows_more, row_there, row-none}
use borrow.Author.Rules.{rules}
use Rattle.steps_places.proofs.numbers.row_at.Goals as goal

pub loop-r-init : goal.loop-r-init
loop-r-init c = (search rules, rows_start _ _ _)

pub returns-then-left-w : goal.returns-then-left-w
returns-then-left-w c =
    let v = c.args in
    row_there v.found.now v.weights.now v.rows v.number c.loop-r.r c.loop-r.left c.row_weight-w.result c.loop-r-test.true
    c.row_weight-w.ensures c.if-left-w.true c.loop-r.invariant.1

pub loop-r-preserved : goal.loop-r-preserved
loop-r-preserved c =
    let v = c.args in (
      search rules,
      rows_more v.found.now v.weights.now v.number c.loop-r.r
          c.loop-r.left c.row_weight-w.result c.row_weight-w.ensures c.if-left-w.false
          c.loop-r.invariant.1,
    )

pub returns : goal.returns
returns c =
    let v = c.args in
    row-none v.found.now v.weights.now v.rows v.number c.loop-r.r c.loop-r.left c.loop-r-test.false c.loop-r.invariant.0
    c.loop-r.invariant.1
