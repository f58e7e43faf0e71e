use Rattle.std.proofs.lemmas.Result.{err_from_is_err_and}
use Rattle.terms_checks.specs.Checking.{fields_at}
use Rattle.terms_checks.proofs.CheckPlaces.{bodies_at, parts_at}
use Rattle.terms_checks.proofs.CheckTerms.{bodies_wrong, parts_wrong, terms_right}
use Rattle.terms_checks.proofs.FramedPlaces.{first_place_lem}
use Rattle.terms_bytes.specs.Counted.{edition_from}
use Rattle.terms_checks.proofs.check.scan_terms.Goals as goal

pub returns-in_err-p : goal.returns-in_err-p
returns-in_err-p c =
    let a = c.args in
    let e = err_from_is_err_and c.from_residual.result c.from_residual.ensures.1 in
    rw (e.1, e.2) (bodies_wrong (edition_from a.counted) (fields_at a.question.now) c.in_err-p.field-0.0 (bodies_at (edition_from a.counted) a.question.now c.arities-list.result.now c.arities-list.ensures c.field_place.result _ c.field_place.ensures c.in_err-p.ensures))

pub returns-in_err-q : goal.returns-in_err-q
returns-in_err-q c =
    let a = c.args in
    let e = err_from_is_err_and c.from_residual-in_err-q.result c.from_residual-in_err-q.ensures.1 in
    rw (e.1, e.2) (parts_wrong (edition_from a.counted) (fields_at a.question.now) c.in_ok-p.p (bodies_at (edition_from a.counted) a.question.now c.arities-list.result.now c.arities-list.ensures c.field_place.result _ c.field_place.ensures c.in_ok-p.ensures) c.in_err-q.field-0.0 (parts_at (edition_from a.counted) a.question.now c.arities-list.result.now c.arities-list.ensures c.field_place-first.result _ (first_place_lem a.question.now c.definitions.result c.field_place-first.result 0 0 c.definitions.ensures.0 c.field_place-first.ensures) c.in_err-q.ensures))

pub returns : goal.returns
returns c =
    let a = c.args in
    terms_right (edition_from a.counted) (fields_at a.question.now) c.in_ok-p.p (bodies_at (edition_from a.counted) a.question.now c.arities-list.result.now c.arities-list.ensures c.field_place.result _ c.field_place.ensures c.in_ok-p.ensures) c.in_ok-q.q (parts_at (edition_from a.counted) a.question.now c.arities-list.result.now c.arities-list.ensures c.field_place-first.result _ (first_place_lem a.question.now c.definitions.result c.field_place-first.result 0 0 c.definitions.ensures.0 c.field_place-first.ensures) c.in_ok-q.ensures)
