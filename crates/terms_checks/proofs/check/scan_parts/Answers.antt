use Rattle.std.proofs.lemmas.Result.{err_from_is_err_and}
use Rattle.terms_bytes.specs.FieldPlaces.{after_field, field_at}
use Rattle.terms_checks.proofs.CheckTerms.{first_fault, second_fault, parts-both}
use Rattle.terms_bytes.specs.Counted.{edition_from}
use Rattle.terms_checks.proofs.check.scan_parts.Goals as goal

pub returns-in_err-p : goal.returns-in_err-p
returns-in_err-p c =
    let a = c.args in
    let e = err_from_is_err_and c.from_residual.result c.from_residual.ensures.1 in
    rw (e.1, e.2) (first_fault (edition_from a.counted) a.list.now (field_at a.question.now a.first) (field_at a.question.now (after_field a.question.now a.first)) c.in_err-p.field-0.0 (rw c.field_at.ensures at c.in_err-p.ensures))

pub returns-in_err-q : goal.returns-in_err-q
returns-in_err-q c =
    let a = c.args in
    let e = err_from_is_err_and c.from_residual-in_err-q.result c.from_residual-in_err-q.ensures.1 in
    rw (e.1, e.2) (second_fault (edition_from a.counted) a.list.now (field_at a.question.now a.first) (field_at a.question.now (after_field a.question.now a.first)) c.in_ok-p.p (rw c.field_at.ensures at c.in_ok-p.ensures) c.in_err-q.field-0.0 (rw (c.field_at-2.ensures, c.after_field-second.ensures) at c.in_err-q.ensures))

pub returns : goal.returns
returns c =
    let a = c.args in
    parts-both (edition_from a.counted) a.list.now (field_at a.question.now a.first) (field_at a.question.now (after_field a.question.now a.first)) c.in_ok-p.p (rw c.field_at.ensures at c.in_ok-p.ensures) c.in_ok-q.q c.joint.result (rw (c.field_at-2.ensures, c.after_field-second.ensures) at c.in_ok-q.ensures) c.joint.ensures
