use mathlib.Core.Path.{sym, ◌∙◌, ap, subst}
use Rattle.std.specs.Prelude.{Ok}
use Rattle.verdict_judge.specs.Judging.{verdict_told}
use Rattle.verdict.specs.Outcome.{code_of, of_verdict, Small}
use Rattle.exchange_codes.specs.ByNumber.{judged_answer_by}
use Rattle.exchange_codes.proofs.codes.judged_code.Goals as goal

pub same-requires : goal.same-requires
unfolding of_verdict verdict_told judged_answer_by
same-requires g c = subst (λ v. Small (of_verdict (judged_answer_by g.E.CheckNumber.told (Ok v)))) c.in-Same.is (subst (λ a. Small (of_verdict (judged_answer_by g.E.CheckNumber.told a))) c.in-Ok.is c.requires)

pub different-requires : goal.different-requires
unfolding of_verdict verdict_told judged_answer_by
different-requires g c = subst (λ v. Small (of_verdict (judged_answer_by g.E.CheckNumber.told (Ok v)))) c.in-Different.is (subst (λ a. Small (of_verdict (judged_answer_by g.E.CheckNumber.told a))) c.in-Ok.is c.requires)

pub returns-in-Unsettled : goal.returns-in-Unsettled
unfolding of_verdict verdict_told judged_answer_by
returns-in-Unsettled g c = c.unsettled.ensures ∙ ap (λ a. code_of (of_verdict (judged_answer_by g.E.CheckNumber.told (Ok a)))) (sym c.in-Unsettled.is) ∙ ap (λ a. code_of (of_verdict (judged_answer_by g.E.CheckNumber.told a))) (sym c.in-Ok.is)

pub returns-in-Same : goal.returns-in-Same
unfolding of_verdict verdict_told judged_answer_by
returns-in-Same g c = c.same.ensures ∙ ap (λ a. code_of (of_verdict (judged_answer_by g.E.CheckNumber.told (Ok a)))) (sym c.in-Same.is) ∙ ap (λ a. code_of (of_verdict (judged_answer_by g.E.CheckNumber.told a))) (sym c.in-Ok.is)

pub returns-in-Different : goal.returns-in-Different
unfolding of_verdict verdict_told judged_answer_by
returns-in-Different g c = c.different.ensures ∙ ap (λ a. code_of (of_verdict (judged_answer_by g.E.CheckNumber.told (Ok a)))) (sym c.in-Different.is) ∙ ap (λ a. code_of (of_verdict (judged_answer_by g.E.CheckNumber.told a))) (sym c.in-Ok.is)

pub returns-in-Err : goal.returns-in-Err
unfolding of_verdict judged_answer_by
returns-in-Err g c = c.refusal.ensures ∙ ap (λ a. code_of (of_verdict (judged_answer_by g.E.CheckNumber.told a))) (sym c.in-Err.is)
