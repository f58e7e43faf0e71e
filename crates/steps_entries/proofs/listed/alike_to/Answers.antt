use borrow.Author.Rules.{rules}
use Rattle.steps_entries.proofs.EntryOrder.{alike-join}
use Rattle.steps_entries.proofs.listed.alike_to.Goals as goal

pub loop-k-init : goal.loop-k-init
loop-k-init c = (search rules, c.requires.5)

pub returns-then-not-alike : goal.returns-then-not-alike
returns-then-not-alike c = (search rules, c.loop-k.invariant.1)

pub loop-k-preserved : goal.loop-k-preserved
loop-k-preserved c =
    let v = c.args in (
      search rules,
      alike-join v.a.now v.i v.b.now v.j c.loop-k.k v.n
          c.loop-k.invariant.1 (c.alike.ensures.0 (c.if-not-alike.false)),
    )

pub returns : goal.returns
returns c = (search rules, c.loop-k.invariant.1)
