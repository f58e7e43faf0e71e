use mathlib.Core.Path.{◌∙◌}
use Rattle.field_slots.proofs.UpdateLaws.{keeps_pairs_is, keeps_pairs_not}
use Rattle.field_distinctions.proofs.update.keeps_pairs.Goals as goal

pub returns-then-get-eq3 : goal.returns-then-get-eq3
returns-then-get-eq3 c = keeps_pairs_not _ _

pub returns : goal.returns
returns c = keeps_pairs_is _ _ (λ z. c.if-get-eq3.false (c.get.ensures ∙ z)) _ c.is_trivial.ensures
