use mathlib.Core.Path.{sym, ◌∙◌, ap}
use Rattle.verdict.specs.Outcome.{code_of, of_number}
use Rattle.exchange_codes.specs.ByNumber.{checked_answer_by}
use Rattle.exchange_codes.proofs.codes.checked_code.Goals as goal

pub returns-in-Ok : goal.returns-in-Ok
unfolding of_number checked_answer_by
returns-in-Ok g c = c.given.ensures ∙ ap (λ a. code_of (of_number (checked_answer_by g.E.CheckNumber.told a))) (sym c.in-Ok.is)

pub returns-in-Err : goal.returns-in-Err
unfolding of_number checked_answer_by
returns-in-Err g c = c.refusal.ensures ∙ ap (λ a. code_of (of_number (checked_answer_by g.E.CheckNumber.told a))) (sym c.in-Err.is)
