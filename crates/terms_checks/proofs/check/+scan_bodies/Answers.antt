use Rattle.std.proofs.lemmas.Result.{err_from_is_err_and}
use native.Mathlib.Omega.{arith}
use Rattle.terms_bytes.specs.Counted.{edition_from}
use Rattle.terms_checks.proofs.CheckLaws.{bodies_none, bodies_fault, bodies_later_fault, bodies_all}
use Rattle.terms_checks.proofs.check.+scan_bodies.Goals as goal

pub returns-then-list-i : goal.returns-then-list-i
returns-then-list-i t c =
    let a = c.args in
    rw c.passed.ensures (bodies_none (edition_from a.counted) a.question.now a.list.now a.i a.at c.if-list-i.true)

pub scan_bodies-requires : goal.scan_bodies-requires
scan_bodies-requires t c = omega (arith, c.requires)

pub returns-in_err-p : goal.returns-in_err-p
returns-in_err-p t c =
    let a = c.args in
    let e = err_from_is_err_and c.from_residual.result c.from_residual.ensures.1 in
    rw (e.1, e.2) (bodies_fault (edition_from a.counted) a.question.now a.list.now a.i a.at c.if-list-i.false c.in_err-p.field-0.0 (rw (c.get-parameters.ensures, c.field_at.ensures) at c.in_err-p.ensures))

pub returns-in_err-q : goal.returns-in_err-q
returns-in_err-q t c =
    let a = c.args in
    let e = err_from_is_err_and c.from_residual-in_err-q.result c.from_residual-in_err-q.ensures.1 in
    rw (e.1, e.2) (bodies_later_fault (edition_from a.counted) a.question.now a.list.now a.i a.at c.if-list-i.false c.in_ok-p.p (rw (c.get-parameters.ensures, c.field_at.ensures) at c.in_ok-p.ensures) c.in_err-q.field-0.0 (rw c.after_field.ensures at c.in_err-q.ensures))

pub returns : goal.returns
returns t c =
    let a = c.args in
    bodies_all (edition_from a.counted) a.question.now a.list.now a.i a.at c.if-list-i.false c.in_ok-p.p (rw (c.get-parameters.ensures, c.field_at.ensures) at c.in_ok-p.ensures) c.in_ok-q.q c.joint.result (rw c.after_field.ensures at c.in_ok-q.ensures) c.joint.ensures
