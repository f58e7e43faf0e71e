use mathlib.Core.Path.{sym, ◌∙◌, ap}
use Rattle.std.specs.Prelude.{Ok}
use Rattle.verdict.specs.Outcome.{code_of}
use Rattle.fewest_lists.specs.Bests.{choice_outcome}
use Rattle.exchange_codes.specs.ByNumber.{apart_outcome_by}
use Rattle.exchange_codes.proofs.codes.apart_code.Goals as goal

pub returns-in-Unsettled : goal.returns-in-Unsettled
unfolding choice_outcome apart_outcome_by
returns-in-Unsettled g c = c.unsettled.ensures ∙ ap (λ a. code_of (apart_outcome_by g.E.CheckNumber.told (Ok a))) (sym c.in-Unsettled.is) ∙ ap (λ a. code_of (apart_outcome_by g.E.CheckNumber.told a)) (sym c.in-Ok.is)

pub returns-in-NoChoice : goal.returns-in-NoChoice
unfolding choice_outcome apart_outcome_by
returns-in-NoChoice g c = c.none.ensures ∙ ap (λ a. code_of (apart_outcome_by g.E.CheckNumber.told (Ok a))) (sym c.in-NoChoice.is) ∙ ap (λ a. code_of (apart_outcome_by g.E.CheckNumber.told a)) (sym c.in-Ok.is)

pub returns-in-Length : goal.returns-in-Length
unfolding choice_outcome apart_outcome_by
returns-in-Length g c = c.given.ensures ∙ ap (λ a. code_of (apart_outcome_by g.E.CheckNumber.told (Ok a))) (sym c.in-Length.is) ∙ ap (λ a. code_of (apart_outcome_by g.E.CheckNumber.told a)) (sym c.in-Ok.is)

pub returns-in-Err : goal.returns-in-Err
unfolding apart_outcome_by
returns-in-Err g c = c.refusal.ensures ∙ ap (λ a. code_of (apart_outcome_by g.E.CheckNumber.told a)) (sym c.in-Err.is)
