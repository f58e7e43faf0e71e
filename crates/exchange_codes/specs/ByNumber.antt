-- The operations' answers, where `told_by` gives the number of the check that turned an operation back. With `number_of` they are
-- `checked_answer` and the others (proofs/Numbered).
use Rattle.std.specs.Prelude.{ℕ, Option, Some, None, Result, Ok, Err, ⊤}
use Rattle.terms.specs.Answer.{Answer, refused, result}
use Rattle.verdict.specs.Outcome.{Outcome, gave, turned_back, unsettled_outcome}
use Rattle.verdict.specs.Verdict.{Verdict}
use Rattle.verdict_judge.specs.Judging.{verdict_told}
use Rattle.verdict_judge.specs.declared.judge.Verdict as told
use Rattle.fewest_lists.specs.Bests.{choice_outcome}
use Rattle.fewest_lists.specs.declared.best.Choice.{Choice}

module _ {E : Type 0} (told_by : E → ℕ) where
  unfoldable pub checked_answer_by : Result ⊤ E → Answer ℕ
  checked_answer_by (Ok _) = result 0
  checked_answer_by (Err k) = refused (told_by k)

  unfoldable pub written_answer_by : Result ℕ E → Answer ℕ
  written_answer_by (Ok n) = result n
  written_answer_by (Err k) = refused (told_by k)

  unfoldable pub of_steps_by : Result (Option ℕ) E → Outcome
  of_steps_by (Err k) = turned_back (told_by k)
  of_steps_by (Ok None) = unsettled_outcome
  of_steps_by (Ok (Some n)) = gave n

  unfoldable pub judged_answer_by : Result told.Verdict E → Answer Verdict
  judged_answer_by (Err k) = refused (told_by k)
  judged_answer_by (Ok v) = result (verdict_told v)

  unfoldable pub apart_outcome_by : Result Choice E → Outcome
  apart_outcome_by (Err k) = turned_back (told_by k)
  apart_outcome_by (Ok c) = choice_outcome c
