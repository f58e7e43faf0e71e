use Prim.Native.Nat.{◌+◌}
use Rattle.steps.specs.Limits.{most_steps}
use mathlib.Core.Path.{refl}
use native.Mathlib.Omega.{arith}
use borrow.Author.Rules.{rules}
use Rattle.steps_walk.proofs.ComponentLaws.{rows_start, rows_done, rows_next, rows-passed}
use Rattle.steps_walk.proofs.walk.take_rows.Goals as goal

pub loop-j-init : goal.loop-j-init
loop-j-init c =
    let v = c.args in (
      search rules,
      refl,
      rows_start v.question.now v.part.now
          v.node.at v.node.depth v.rows.now v.own.first v.own.last v.node.x v.area.now v.own.count,
    )

pub take_row-requires : goal.take_row-requires
take_row-requires c =
    let g = c.requires in let l = c.loop-j-test.true in let a = g.2 in let b = g.3 in (((search rules, search rules), g.0.1), g.1, omega arith)

pub returns-in_err-n-clause-is : goal.returns-in_err-n-clause-is
returns-in_err-n-clause-is c =
    let v = c.args in
    rw c.from_residual.ensures (rows-passed v.question.now v.part.now v.node.at v.node.depth v.rows.now v.own.first v.own.last v.node.x
    v.area.now v.own.count c.loop-j.j c.loop-j.n c.loop-j.area c.loop-j.invariant.2 c.loop-j-test.true (most_steps + 1) _
    c.in_err-n.ensures.is c.loop-j.invariant.0 (omega arith))

pub loop-j-preserved : goal.loop-j-preserved
loop-j-preserved c =
    let v = c.args in (
      c.in_ok-n.ensures.few,
      search
          rules,
      rows_next v.question.now v.part.now v.node.at v.node.depth v.rows.now v.own.first v.own.last v.node.x
          v.area.now v.own.count c.loop-j.j
          c.loop-j.n c.loop-j.area
          c.loop-j.invariant.2 c.loop-j-test.true
          _ _ c.in_ok-n.ensures.is (c.in_ok-n.ensures.few),
    )

pub returns-clause-is : goal.returns-clause-is
returns-clause-is c =
    let v = c.args in
    rows_done v.question.now v.part.now v.node.at v.node.depth v.rows.now v.own.first v.own.last v.node.x
    v.area.now v.own.count c.loop-j.j c.loop-j.n c.loop-j.area c.loop-j.invariant.2 c.loop-j-test.false c.loop-j.invariant.0
