use mathlib.Core.Path.{sym, ap, ◌∙◌}
use Rattle.terms_bytes.specs.FieldPlaces.{field_at}
use Rattle.terms.specs.Question.{fits}
use Rattle.terms_checks.specs.Checking.{fields_at}
use Rattle.terms_checks.proofs.CheckPlaces.{fits-at, first_at, second_at}
use Rattle.terms_checks.proofs.CheckTerms.{body_long, first_long, second_decides}
use Rattle.terms_checks.proofs.FramedPlaces.{first_place_lem}
use Rattle.terms_checks.proofs.check.terms_fit.Goals as goal

-- src/check.rt:233:9
pub returns-then-not-bodies_fit : goal.returns-then-not-bodies_fit
returns-then-not-bodies_fit c =
    let a = c.args in
    body_long (fields_at a.question.now) (fits-at a.question.now c.arities-list.result.now c.arities-list.ensures c.field_place.result
    c.field_place.ensures ∙ sym c.bodies_fit.ensures ∙ c.if-not-bodies_fit.true)

-- src/check.rt:237:9
pub returns-then-not-term_fits : goal.returns-then-not-term_fits
returns-then-not-term_fits c =
    let a = c.args in
    first_long (fields_at a.question.now) (fits-at a.question.now c.arities-list.result.now c.arities-list.ensures c.field_place.result
    c.field_place.ensures ∙ sym c.bodies_fit.ensures ∙ c.if-not-bodies_fit.false) (ap fits (first_at a.question.now
    c.field_place-first.result (first_place_lem a.question.now c.definitions.result c.field_place-first.result 0 0 c.definitions.ensures.0
    c.field_place-first.ensures) ∙ sym c.field_at.ensures) ∙ sym c.term_fits.ensures ∙ c.if-not-term_fits.true)

-- src/check.rt:228:1
pub returns : goal.returns
returns c =
    let a = c.args in
    second_decides (fields_at a.question.now) (fits-at a.question.now c.arities-list.result.now c.arities-list.ensures
    c.field_place.result c.field_place.ensures ∙ sym c.bodies_fit.ensures ∙ c.if-not-bodies_fit.false) (ap fits (first_at
    a.question.now c.field_place-first.result (first_place_lem a.question.now c.definitions.result c.field_place-first.result 0 0
    c.definitions.ensures.0 c.field_place-first.ensures) ∙ sym c.field_at.ensures) ∙ sym c.term_fits.ensures ∙ c.if-not-term_fits.false) c.term_fits-2.result (c.term_fits-2.ensures ∙ ap fits (c.field_at-2.ensures ∙ ap (field_at a.question.now)
    c.after_field.ensures ∙ sym (second_at a.question.now c.field_place-first.result (first_place_lem a.question.now
    c.definitions.result c.field_place-first.result 0 0 c.definitions.ensures.0 c.field_place-first.ensures))))
