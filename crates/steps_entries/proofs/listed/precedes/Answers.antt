use borrow.Author.Rules.{rules}
use native.Mathlib.Omega.{arith}
use Rattle.steps_entries.proofs.EntryOrder.{alike-passed, entry_less, entry_more, entry_next, entries-same}
use Rattle.steps_entries.proofs.listed.precedes.Goals as goal

pub alike_to-far-requires : goal.alike_to-far-requires
alike_to-far-requires c = (search rules, search rules, search rules, search rules, search rules, λ l h. absurd (omega arith))

pub alike_to-k-requires : goal.alike_to-k-requires
alike_to-k-requires c = (search rules, search rules, c.alike_to-far.ensures.0, search rules, search rules, c.alike_to-far.ensures.1)

pub loop-k-init : goal.loop-k-init
loop-k-init c =
    let v = c.args in (
      c.alike_to-k.ensures.0,
      alike-passed v.a.now v.i v.b.now v.j c.requires.0 c.requires.1 c.alike_to-k.result
          c.alike_to-k.ensures.0 c.alike_to-k.ensures.1,
    )

pub returns-then-x-y : goal.returns-then-x-y
returns-then-x-y c =
    let v = c.args in
    entry_less v.a.now v.i v.b.now v.j c.requires.0
    c.requires.1 c.loop-k.k
    c.loop-k.invariant.1 (search rules) c.if-x-y.true

pub returns-then-y-x : goal.returns-then-y-x
returns-then-y-x c =
    let v = c.args in
    entry_more v.a.now v.i v.b.now v.j c.requires.0
    c.requires.1 c.loop-k.k
    c.loop-k.invariant.1 (search rules) c.if-y-x.true

pub loop-k-preserved : goal.loop-k-preserved
loop-k-preserved c =
    let v = c.args in (
      search rules,
      entry_next v.a.now v.i v.b.now v.j
          c.requires.0
          c.requires.1 c.loop-k.k
          c.loop-k.invariant.1 (search rules) c.if-x-y.false c.if-y-x.false,
    )

pub returns : goal.returns
returns c =
    let v = c.args in
    entries-same v.a.now v.i v.b.now v.j c.requires.0
    c.requires.1 c.loop-k.k c.loop-k.invariant.1 (search rules)
