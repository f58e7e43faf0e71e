use mathlib.Core.Path.{refl}
use Rattle.std.proofs.lemmas.Result.{err_from_is_err_and}
use Rattle.fewest_search.specs.Searching.{CheckedIs}
use Rattle.fewest_search.proofs.ApartLaws.{not_within, is_allowed, question_refused, is_accepted}
use Rattle.fewest_search.proofs.apart.apart.Goals as goal

pub returns-in_err-capacity_check : goal.returns-in_err-capacity_check
returns-in_err-capacity_check c =
    let v = c.args in
    let e = err_from_is_err_and c.from_residual.result c.from_residual.ensures.1 in
    rw (e.1, e.2) (not_within v.question.now v.capacity v.names.now v.work.now v.area.now _ c.in_err-capacity_check.ensures _ refl)

pub returns-in_err-check : goal.returns-in_err-check
returns-in_err-check c =
    let v = c.args in
    let e = err_from_is_err_and c.from_residual-in_err-check.result c.from_residual-in_err-check.ensures.1 in
    rw (e.1, e.2) (question_refused v.question.now v.capacity v.names.now v.work.now v.area.now _ c.in_ok-capacity_check.ensures _ refl _ _
    c.in_err-check.ensures refl)

pub apart_accepted-requires : goal.apart_accepted-requires
apart_accepted-requires c =
    let v = c.args in (
      is_accepted v.question.now _ _ c.in_ok-check.ensures refl,
      is_allowed v.question.now v.capacity v.names.now v.work.now v.area.now _ c.in_ok-capacity_check.ensures _ refl,
    )

pub returns : goal.returns
unfolding CheckedIs
returns c = c.apart_accepted.ensures
