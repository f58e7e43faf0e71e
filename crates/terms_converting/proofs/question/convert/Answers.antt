use Rattle.std.proofs.lemmas.Result.{err_from_is_err_and}
use Rattle.terms_checks.specs.Checking.{checked_answer}
use Rattle.terms_converting.proofs.FittingLaws.{does_refused, convert_refused, convert_accepted}
use Rattle.terms_converting.proofs.question.convert.Goals as goal

pub returns-in_err-check_in : goal.returns-in_err-check_in
unfolding checked_answer
returns-in_err-check_in c =
    let a = c.args in
    let e = err_from_is_err_and c.from_residual.result c.from_residual.ensures.1 in
    rw (e.1, e.2) (does_refused _ _ _ (convert_refused a.question.now a.counted _ _ c.in_err-check_in.ensures))

pub convert_accepted-requires : goal.convert_accepted-requires
unfolding checked_answer
convert_accepted-requires c = let a = c.args in convert_accepted a.question.now a.counted c.in_ok-check_in.ensures
