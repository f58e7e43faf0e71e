use Rattle.std.proofs.lemmas.Result.{err_from_is_err_and}
use mathlib.Core.Path.{sym, ap, ◌∙◌}
use Rattle.terms.specs.Answer.{need}
use Rattle.terms_checks.specs.Checking.{zero_for, fields_at}
use Rattle.terms.specs.Question.{read_apart}
use Rattle.terms_checks.proofs.CheckPlaces.{apart_at}
use Rattle.terms_checks.proofs.CheckTerms.{parallel_refused, call-refused, apart_refused, terms_fault, all_accepted}
use Rattle.terms_bytes.specs.Counted.{edition_from}
use Rattle.terms_checks.proofs.check.check_terms.Goals as goal

pub returns-then-not-parallels : goal.returns-then-not-parallels
returns-then-not-parallels c =
    let a = c.args in
    parallel_refused (edition_from a.counted) (fields_at a.question.now) c.in_ok-c.c c.in_ok-c.ensures (c.if-not-parallels.true)

pub returns-then-not-guarded : goal.returns-then-not-guarded
returns-then-not-guarded c =
    let a = c.args in
    call-refused (edition_from a.counted) (fields_at a.question.now) c.in_ok-c.c c.in_ok-c.ensures (c.if-not-parallels.false) (c.if-not-guarded.true)

pub returns-then-not-apart_allowed : goal.returns-then-not-apart_allowed
returns-then-not-apart_allowed c =
    let a = c.args in
    apart_refused (edition_from a.counted) (fields_at a.question.now) c.in_ok-c.c c.in_ok-c.ensures (c.if-not-parallels.false) (c.if-not-guarded.false) (ap zero_for (ap read_apart
    (apart_at a.question.now _ c.apart_list.ensures)) ∙ c.apart_allowed.ensures ∙ ap (λ b. zero_for (need 12 b))
    (c.if-not-apart_allowed.true))

pub returns-in_err-c : goal.returns-in_err-c
returns-in_err-c c =
    let a = c.args in
    let e = err_from_is_err_and c.from_residual.result c.from_residual.ensures.1 in
    rw (e.1, e.2) (terms_fault (edition_from a.counted) (fields_at a.question.now) c.in_err-c.field-0.0 c.in_err-c.ensures)

pub returns : goal.returns
returns c =
    let a = c.args in
    all_accepted (edition_from a.counted) (fields_at a.question.now) c.in_ok-c.c c.in_ok-c.ensures (c.if-not-parallels.false) (c.if-not-guarded.false) (ap zero_for (ap read_apart
    (apart_at a.question.now _ c.apart_list.ensures)) ∙ c.apart_allowed.ensures ∙ ap (λ b. zero_for (need 12 b))
    (c.if-not-apart_allowed.false))
