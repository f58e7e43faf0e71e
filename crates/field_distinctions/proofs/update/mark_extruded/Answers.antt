use mathlib.Core.Path.{sym, ◌∙◌}
use Rattle.field_slots.proofs.UpdateLaws.{extruded-none, extruded-row}
use Rattle.field_distinctions.proofs.update.mark_extruded.Goals as goal

pub returns-then-get-ne3 : goal.returns-then-get-ne3
returns-then-get-ne3 c = extruded-none _ _ _ _ (λ z. c.if-get-ne3.true (c.get.ensures ∙ z))

pub returns : goal.returns
returns c =
    extruded-row _ _ _ _ (sym c.get.ensures ∙ c.if-get-ne3.false) _ c.get-x.ensures _ c.mark_row.ensures
