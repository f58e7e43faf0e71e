use Rattle.field_slots.proofs.UpdateLaws.{extruded-copied, updated_is, updated_none, updated_trivial}
use Rattle.field_distinctions.proofs.update.updated.Goals as goal

pub returns-then-is_trivial : goal.returns-then-is_trivial
returns-then-is_trivial c =
    updated_trivial _ _ _ _ _ (extruded-copied _ _ _ _ _ _ c.copy.ensures c.mark_extruded.ensures) _ c.is_trivial.ensures
    c.if-is_trivial.true

pub returns-then-none_apart : goal.returns-then-none_apart
returns-then-none_apart c =
    updated_none _ _ _ _ _ (extruded-copied _ _ _ _ _ _ c.copy.ensures c.mark_extruded.ensures) _ c.none_apart.ensures
    c.if-none_apart.true

pub returns : goal.returns
returns c =
    updated_is _ _ _ _ _ _ (extruded-copied _ _ _ _ _ _ c.copy.ensures c.mark_extruded.ensures) c.rewrite.ensures
