use mathlib.Core.Path.{ap, ◌∙◌}
use Rattle.terms_checks.proofs.FramedPlaces.{apart_place_lem}
use mathlib.Core.Path.{ap, ◌∙◌}
use Rattle.terms_bytes.specs.FieldPlaces.{field_at}
use Rattle.terms_checks.proofs.check.apart_list.Goals as goal

pub returns : goal.returns
returns c =
    let a = c.args in
    c.field_at.ensures ∙ ap (field_at a.question.now) (apart_place_lem a.question.now c.definitions.result c.field_place-first.result
    c.after_field-second.result c.after_field.result c.definitions.ensures.0 c.field_place-first.ensures c.after_field-second.ensures
    c.after_field.ensures)
