use mathlib.Core.Path.{sym, ◌∙◌}
use borrow.Author.Rules.{rules}
use Rattle.steps_reach.proofs.TableLaws.{named_none, named_more, named-all, named_not}
use Rattle.steps_reach.proofs.table.same_names.Goals as goal

pub loop-j-init : goal.loop-j-init
loop-j-init c = (search rules, named_none _ _ _)

pub returns-then-get : goal.returns-then-get
returns-then-get c =
    let a = c.args in
    let l = c.loop-j in
    named_not a.table.now a.row a.names.now a.count l.j c.loop-j-test.true (λ e. c.if-get.true (c.get.ensures ∙
    e ∙ sym c.get-in-loop-j.ensures))

pub loop-j-preserved : goal.loop-j-preserved
loop-j-preserved c =
    let a = c.args in let l = c.loop-j in (
      search rules,
      named_more a.table.now a.row a.names.now l.j (sym c.get.ensures ∙ c.if-get.false ∙ c.get-in-loop-j.ensures)
          l.invariant.1,
    )

pub returns : goal.returns
returns c =
    let a = c.args in
    let l = c.loop-j in
    named-all a.table.now a.row a.names.now a.count l.j c.loop-j-test.false l.invariant.1
