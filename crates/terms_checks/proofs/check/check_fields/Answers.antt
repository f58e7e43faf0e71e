use mathlib.Core.Path.{sym, ap, ◌∙◌}
use lib.ListN.{length}
use lib.Dec.{leb}
use Rattle.terms_bytes.specs.Counted.{edition_from}
use Rattle.terms.specs.Limits.{greatest_arity}
use Rattle.terms.specs.Question.{every}
use Rattle.terms_checks.specs.Checking.{fields_at}
use Rattle.terms_checks.proofs.CheckPlaces.{arities_at}
use Rattle.terms_checks.proofs.CheckTerms.{many-refused, arity_refused, size-refused, fields_right}
use Rattle.terms_checks.proofs.check.check_fields.Goals as goal

-- src/check.rt:248:9
pub returns-then-list-gt-MOST_DEFINITIONS : goal.returns-then-list-gt-MOST_DEFINITIONS
returns-then-list-gt-MOST_DEFINITIONS c =
    let a = c.args in
    many-refused (edition_from a.counted) (fields_at a.question.now) (rw (ap length (arities_at a.question.now c.arities-list.result.now
    c.arities-list.ensures)) c.if-list-gt-MOST_DEFINITIONS.true)

-- src/check.rt:251:9
pub returns-then-not-arities_fit : goal.returns-then-not-arities_fit
returns-then-not-arities_fit c =
    let a = c.args in
    arity_refused (edition_from a.counted) (fields_at a.question.now) (rw (ap length (arities_at a.question.now c.arities-list.result.now
    c.arities-list.ensures)) c.if-list-gt-MOST_DEFINITIONS.false) (ap (every (λ x. leb x greatest_arity)) (arities_at a.question.now
    c.arities-list.result.now c.arities-list.ensures) ∙ sym c.arities_fit.ensures ∙ c.if-not-arities_fit.true)

-- src/check.rt:254:9
pub returns-then-not-terms_fit : goal.returns-then-not-terms_fit
returns-then-not-terms_fit c =
    let a = c.args in
    size-refused (edition_from a.counted) (fields_at a.question.now) (rw (ap length (arities_at a.question.now c.arities-list.result.now
    c.arities-list.ensures)) c.if-list-gt-MOST_DEFINITIONS.false) (ap (every (λ x. leb x greatest_arity)) (arities_at a.question.now c.arities-list.result.now
    c.arities-list.ensures) ∙ sym c.arities_fit.ensures ∙ c.if-not-arities_fit.false) (sym c.terms_fit.ensures ∙
    c.if-not-terms_fit.true)

-- src/check.rt:243:1
pub returns : goal.returns
returns c =
    let a = c.args in
    fields_right (edition_from a.counted) (fields_at a.question.now) (rw (ap length (arities_at a.question.now c.arities-list.result.now
    c.arities-list.ensures)) c.if-list-gt-MOST_DEFINITIONS.false) (ap (every (λ x. leb x greatest_arity)) (arities_at a.question.now c.arities-list.result.now
    c.arities-list.ensures) ∙ sym c.arities_fit.ensures ∙ c.if-not-arities_fit.false) (sym c.terms_fit.ensures ∙ c.if-not-terms_fit.false) ∙ c.check_terms.ensures
