use lib.ListN.{length}
use Rattle.std.proofs.lemmas.Result.{err_from_is_err_and}
use Rattle.terms_checks.specs.Checking.{checked_answer}
use Rattle.terms_converting.proofs.FittingLaws.{does_refused}
use Rattle.terms_converting.proofs.TurnedBack.{check_accepted, beside_turned_back}
use Rattle.terms_beside.proofs.beside.beside.Goals as goal

pub returns-in_err-check : goal.returns-in_err-check
unfolding checked_answer
returns-in_err-check c =
    let a = c.args in
    let e = err_from_is_err_and c.from_residual.result c.from_residual.ensures.1 in
    rw (e.1, e.2) (does_refused _ _ _ (beside_turned_back a.question.now a.third.now (length a.area.now) _ c.in_err-check.ensures))

pub beside_accepted-requires : goal.beside_accepted-requires
unfolding checked_answer
beside_accepted-requires c = check_accepted c.args.question.now c.in_ok-check.ensures
