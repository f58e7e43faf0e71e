use mathlib.Core.Path.{ap, ◌∙◌}
use Rattle.terms_bytes.specs.FieldPlaces.{field_place}
use Rattle.field_successors.proofs.StartLaws.{start_is}
use Rattle.field_successors.proofs.start.start_key.Goals as goal

-- src/start.rt:62:1
pub returns : goal.returns
returns c =
    start_is c.args.question.now _ _ _ (c.field_place-first.ensures ∙ ap (field_place c.args.question.now) c.definitions.ensures.0)
    c.after_field-second.ensures c.after_field.ensures _ _ _ _ c.field_at.ensures c.field_at-2.ensures c.field_at-list.ensures
    c.arities-called.ensures _ _ _ _ _ c.put_part.ensures c.put_part-2.ensures c.start_pairs-apart.ensures c.complete.ensures
