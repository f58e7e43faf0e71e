use Rattle.std.proofs.lemmas.Result.{err_from_is_err_and}
use Rattle.steps_lister.proofs.OperationLaws.{question_accepted, list_turned_back}
use Rattle.terms_checks.specs.Checking.{checked_answer}
use Rattle.steps_lister.proofs.operation.steps.Goals as goal

pub steps_either-requires : goal.steps_either-requires
unfolding checked_answer
steps_either-requires c = question_accepted c.args.question.now c.in_ok-check.ensures

pub returns-in_err-check : goal.returns-in_err-check
unfolding checked_answer
returns-in_err-check c =
    let v = c.args in
    let e = err_from_is_err_and c.from_residual.result c.from_residual.ensures.1 in
    rw (e.1, e.2) (list_turned_back v.question.now v.side v.name v.area.now _ c.in_err-check.ensures)
