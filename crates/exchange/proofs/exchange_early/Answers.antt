use Rattle.std.proofs.Common.{sym, ◌∙◌, ap, subst}
use Rattle.late_early.specs.LateEarly.{early}
use Rattle.verdict.specs.Verdict.{named}
use Rattle.verdict.specs.Outcome.{code_of, of_verdict, Small}
use Rattle.verdict.proofs.SmallOutcomes.{judge_small}
use Rattle.exchange_codes.proofs.Numbered.{judged_numbered}
use Rattle.exchange.proofs.exchange_early.Goals as goal

pub judged_code-requires : goal.judged_code-requires
judged_code-requires c = subst (λ m. Small (of_verdict m)) (sym (judged_numbered _ ∙ c.judge_early.ensures.answer)) (judge_small (named early) _ _ _)

pub returns : goal.returns
returns c =
    record {
      answer = record { number = c.judged_code.ensures ∙ ap (λ m. code_of (of_verdict m)) (judged_numbered _ ∙ c.judge_early.ensures.answer); small = judge_small (named early) _ _ _ };
      left = c.judge_early.ensures.left;
    }
