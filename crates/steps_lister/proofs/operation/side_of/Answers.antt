use mathlib.Core.Path.{sym, ap, subst, ◌∙◌}
use Rattle.steps_lister.proofs.OperationLaws.{side_is}
use Rattle.steps_lister.specs.Answering.{SideIs}
use Rattle.terms_bytes.specs.FieldPlaces.{field_at, field_place, after_field}
use Rattle.steps_lister.proofs.operation.side_of.Goals as goal

pub returns-then-side-eq1 : goal.returns-then-side-eq1
returns-then-side-eq1 c =
    let v = c.args in
    subst (SideIs v.question.now v.side) (sym (c.field_at.ensures ∙ ap (field_at v.question.now) (c.field_place-first.ensures
    ∙ ap (field_place v.question.now) c.definitions.ensures.0))) ((side_is v.question.now v.side).0 c.if-side-eq1.true)

pub returns : goal.returns
returns c =
    let v = c.args in
    subst (SideIs v.question.now v.side) (sym (c.field_at-2.ensures ∙ ap (field_at v.question.now) (c.after_field.ensures ∙ ap
    (after_field v.question.now) (c.field_place-first.ensures ∙ ap (field_place v.question.now) c.definitions.ensures.0)))) ((side_is
    v.question.now v.side).1
    c.if-side-eq1.false)
