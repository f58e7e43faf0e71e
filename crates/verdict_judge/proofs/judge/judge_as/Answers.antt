use mathlib.Core.Path.{refl}
use Rattle.std.proofs.lemmas.Result.{err_from_is_err_and}
use Rattle.verdict_answers.specs.Manners.{manner_of}
use Rattle.verdict_judge.proofs.JudgeLaws.{not_within, within, question_refused, question_accepted, accepted_either}
use Rattle.verdict_judge.proofs.judge.judge_as.Goals as goal

pub returns-in_err-capacity_check : goal.returns-in_err-capacity_check
returns-in_err-capacity_check c =
    let v = c.args in
    let e = err_from_is_err_and c.from_residual.result c.from_residual.ensures.1 in
    rw (e.1, e.2) (not_within (manner_of v.manner) v.question.now v.capacity v.work.now _ c.in_err-capacity_check.ensures _ refl)

pub returns-in_err-check : goal.returns-in_err-check
returns-in_err-check c =
    let v = c.args in
    let e = err_from_is_err_and c.from_residual-in_err-check.result c.from_residual-in_err-check.ensures.1 in
    rw (e.1, e.2) (question_refused (manner_of v.manner) v.question.now v.capacity v.work.now _ c.in_ok-capacity_check.ensures _ refl _ _
    c.in_err-check.ensures refl)

pub judge_either-requires : goal.judge_either-requires
judge_either-requires c =
    let v = c.args in
    let w = within (manner_of v.manner) v.question.now v.capacity v.work.now _ c.in_ok-capacity_check.ensures _ refl in
    (w.some, w.most, w.fits, accepted_either _ _ _ c.in_ok-check.ensures refl)

pub returns : goal.returns
returns c =
    let v = c.args in
    question_accepted (manner_of v.manner) v.question.now v.capacity v.work.now _ c.in_ok-capacity_check.ensures _ refl _ _ _ _
    c.in_ok-check.ensures refl c.judge_either.ensures
