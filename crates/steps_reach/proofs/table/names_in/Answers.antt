use mathlib.Core.Path.{◌≡◌, ap, ◌∙◌}
use native.Mathlib.Omega.{arith}
use lib.ListN.{length-set}
use borrow.Author.Rules.{rules}
use Rattle.steps_reach.specs.CallTable.{name_in}
use Rattle.steps_reach.proofs.TableLaws.{names-none, names_more}
use Rattle.steps_reach.proofs.table.names_in.Goals as goal

pub loop-j-init : goal.loop-j-init
loop-j-init c = (search rules, names-none _ _ _ _ _ _, search rules)

pub loop-j-preserved : goal.loop-j-preserved
loop-j-preserved c =
    let a = c.args in let l = c.loop-j in (
      search rules,
      names_more
          a.src.now a.at a.table.now a.row a.arity l.j l.names _ (omega (arith, l.invariant, c.loop-j-test.true))
          (c.name_in.ensures ∙ ap (name_in a.table.now a.row a.arity) c.get.ensures) l.invariant.1,
      length-set l.names _ _ ∙
          l.invariant.2,
    )

pub returns : goal.returns
returns c =
    let a = c.args in
    let l = c.loop-j in
    let e : l.j ≡ a.count = omega (arith, l.invariant, c.loop-j-test.false) in
    rw e at l.invariant.1
