use borrow.Author.Rules.{rules}
use mathlib.Core.Path.{refl}
use native.Mathlib.Omega.{arith}
use Rattle.steps_communications.proofs.MeetRows.{met_start, met_done, met-more, met-passed}
use Rattle.steps_communications.proofs.meet.meet.Goals as goal

pub loop-row-init : goal.loop-row-init
loop-row-init c =
    let v = c.args in (
      c.requires.0.0.0,
      refl,
      search
          rules,
      search rules,
      search rules,
      met_start v.question.now v.part.now v.node.at v.node.depth v.node.number v.sides.before
          v.node.x v.rows.now v.sides.first v.sides.middle v.sides.last v.area.now v.sides.count
          c.requires.0.0.0,
    )

pub meet_row-requires : goal.meet_row-requires
meet_row-requires c =
    let g = c.requires in (
      (
        (c.loop-row.invariant.0, search rules),
        g.0.1,
      ),
      g.1,
      search rules,
      g.3,
      g.4,
      g.5,
      search rules,
    )

pub returns-in_err-n-clause-is : goal.returns-in_err-n-clause-is
returns-in_err-n-clause-is c =
    let v = c.args in
    rw c.from_residual.ensures (met-passed v.question.now v.part.now v.node.at v.node.depth v.node.number v.sides.before v.node.x v.rows.now
    v.sides.first v.sides.middle v.sides.last v.area.now v.sides.count c.loop-row.row c.loop-row.n c.loop-row.j
    c.loop-row.area c.loop-row.invariant.5 c.loop-row.invariant.2 c.loop-row.invariant.0 c.loop-row-test.true _ _ c.in_err-n.ensures.is
    (omega arith))

pub loop-row-preserved : goal.loop-row-preserved
loop-row-preserved c =
    let v = c.args in (
      search rules,
      search
          rules,
      search rules,
      search rules,
      search rules,
      met-more v.question.now v.part.now v.node.at v.node.depth v.node.number
          v.sides.before v.node.x v.rows.now v.sides.first v.sides.middle v.sides.last v.area.now v.sides.count
          c.loop-row.row c.loop-row.n
          c.loop-row.j c.loop-row.area
          c.loop-row.invariant.5 c.loop-row.invariant.2
          c.loop-row.invariant.0 c.loop-row-test.true
          _ _ c.in_ok-n.ensures.is c.in_ok-n.ensures.few,
    )

pub returns-clause-is : goal.returns-clause-is
returns-clause-is c =
    let v = c.args in
    met_done v.question.now v.part.now v.node.at v.node.depth v.node.number v.sides.before v.node.x v.rows.now
    v.sides.first v.sides.middle v.sides.last v.area.now v.sides.count c.loop-row.row c.loop-row.n c.loop-row.j
    c.loop-row.area c.loop-row.invariant.5 c.loop-row.invariant.2 c.loop-row.invariant.0 c.loop-row-test.false
