use mathlib.Core.Path.{sym, ◌∙◌, ap}
use Rattle.std.specs.Prelude.{Ok}
use Rattle.verdict.specs.Outcome.{code_of}
use Rattle.exchange_codes.specs.ByNumber.{of_steps_by}
use Rattle.exchange_codes.proofs.codes.listed_code.Goals as goal

pub returns-in-None : goal.returns-in-None
unfolding of_steps_by
returns-in-None g c = c.unsettled.ensures ∙ ap (λ a. code_of (of_steps_by g.E.CheckNumber.told (Ok a))) (sym c.in-None.is) ∙ ap (λ a. code_of (of_steps_by g.E.CheckNumber.told a)) (sym c.in-Ok.is)

pub returns-in-Some : goal.returns-in-Some
unfolding of_steps_by
returns-in-Some g c = c.given.ensures ∙ ap (λ a. code_of (of_steps_by g.E.CheckNumber.told (Ok a))) (sym c.in-Some.is) ∙ ap (λ a. code_of (of_steps_by g.E.CheckNumber.told a)) (sym c.in-Ok.is)

pub returns-in-Err : goal.returns-in-Err
unfolding of_steps_by
returns-in-Err g c = c.refusal.ensures ∙ ap (λ a. code_of (of_steps_by g.E.CheckNumber.told a)) (sym c.in-Err.is)
