use borrow.Author.Rules.{rules}
use native.Mathlib.Omega.{arith}
use Rattle.steps_entries.proofs.ArrangeLaws.{relabel_start, relabel_step, relabel_done}
use Rattle.steps_entries.proofs.arrange.relabel.Goals as goal

pub loop-k-init : goal.loop-k-init
loop-k-init c =
    let v = c.args in
    (search rules, search rules, relabel_start v.list.now v.from v.old v.new)

pub bounds-list-k : goal.bounds-list-k
bounds-list-k c = omega (arith, c.loop-k.invariant.2.len)

pub bounds-list-k-in-loop-k : goal.bounds-list-k-in-loop-k
bounds-list-k-in-loop-k c = omega (arith, c.loop-k.invariant.2.len)

pub loop-k-preserved : goal.loop-k-preserved
loop-k-preserved c =
    let v = c.args in (
      search rules,
      search rules,
      relabel_step v.list.now v.from v.old v.new c.loop-k.k c.moved-place.result
          c.loop-k.list c.loop-k.invariant.0 (omega arith) c.moved-place.ensures
          c.loop-k.invariant.2,
    )

pub returns : goal.returns
returns c =
    let v = c.args in
    relabel_done v.list.now v.from v.old v.new v.end c.loop-k.k c.loop-k.list c.loop-k.invariant.0 (search
    rules) c.loop-k.invariant.2
