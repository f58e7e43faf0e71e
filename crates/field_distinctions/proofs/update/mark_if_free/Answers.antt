use mathlib.Core.Path.{sym, ◌∙◌}
use Rattle.field_slots.proofs.UpdateLaws.{if_free_not, if_free_lem}
use borrow.Author.Rules.{rules}
use Rattle.field_distinctions.proofs.update.mark_if_free.Goals as goal

pub returns-then-get-eq0 : goal.returns-then-get-eq0
returns-then-get-eq0 c = if_free_not _ _ _ _ (search rules) (sym c.get.ensures ∙ c.if-get-eq0.true)

pub returns : goal.returns
returns c =
    if_free_lem _ _ _ _ (search rules) (λ z. c.if-get-eq0.false (c.get.ensures ∙ z)) _
    c.mark_pair.ensures
