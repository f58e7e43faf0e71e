use mathlib.Core.Path.{sym, ◌∙◌}
use Rattle.steps_entries.proofs.ArrangeLaws.{settled_there, settled_away}
use borrow.Author.Rules.{rules}
use Rattle.steps_entries.proofs.arrange.put_in_place.Goals as goal

pub returns-then-place-i : goal.returns-then-place-i
returns-then-place-i c =
    let v = c.args in
    settled_there v.list.now v.i v.count c.requires.0 c.requires.1 c.requires.2 (sym c.get-place.ensures ∙ c.if-place-i.true)

pub returns : goal.returns
returns c =
    let v = c.args in
    let g = c.requires in
    settled_away v.list.now v.i v.count g.0 g.1 g.2
    c.get-place.result
    c.get-place.ensures
    c.if-place-i.false _ _
    c.exchange.ensures c.relabel.ensures (search rules)
