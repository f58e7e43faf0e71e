use mathlib.Core.Path.{sym, ◌∙◌}
use Rattle.field_slots.proofs.UpdateLaws.{rewritten_not, rewritten_pair}
use borrow.Author.Rules.{rules}
use Rattle.field_distinctions.proofs.update.mark_rewritten.Goals as goal

pub returns-then-get-eq0 : goal.returns-then-get-eq0
returns-then-get-eq0 c = rewritten_not _ _ (search rules) _ _ _ (sym c.get.ensures ∙ c.if-get-eq0.true)

pub returns : goal.returns
returns c =
    let v = c.args in
    rewritten_pair _ v.k (search rules) v.area.now v.at _ (λ z. c.if-get-eq0.false
    (c.get.ensures ∙ z))
    c.class_of-a.result c.class_of-b.result (rw (←
    c.pair_of-p.ensures.first.is) c.class_of-a.ensures)
    (rw (← c.pair_of-p.ensures.second.is) c.class_of-b.ensures) _
    c.mark_pair.ensures
