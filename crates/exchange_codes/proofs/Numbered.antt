-- Told by the checks' numbers, the answers are those of document 01. Assumes nothing.
use mathlib.Core.Path.{◌≡◌, refl}
use Rattle.std.specs.Prelude.{ℕ, Option, Some, None, Result, Ok, Err, ⊤}
use Rattle.terms_bytes.specs.Refusals.{number_of}
use Rattle.terms_bytes.specs.declared.answer.Refusal.{Refusal}
use Rattle.terms_bytes.specs.Writing.{written_answer}
use Rattle.terms_checks.specs.Checking.{checked_answer}
use Rattle.verdict_judge.specs.Judging.{judged_answer}
use Rattle.verdict_judge.specs.declared.judge.Verdict.{Verdict}
use Rattle.fewest_lists.specs.Bests.{apart_outcome}
use Rattle.fewest_lists.specs.declared.best.Choice.{Choice}
use Rattle.exchange_codes.specs.ByNumber.{checked_answer_by, written_answer_by, of_steps_by, judged_answer_by, apart_outcome_by}
use Rattle.exchange_codes.specs.Listed.{of_steps}

pub checked_numbered : (r : Result ⊤ Refusal) → checked_answer_by number_of r ≡ checked_answer r
unfolding checked_answer_by checked_answer
checked_numbered (Ok u) = refl
checked_numbered (Err k) = refl

pub written_numbered : (r : Result ℕ Refusal) → written_answer_by number_of r ≡ written_answer r
unfolding written_answer_by written_answer
written_numbered (Ok n) = refl
written_numbered (Err k) = refl

pub steps_numbered : (r : Result (Option ℕ) Refusal) → of_steps_by number_of r ≡ of_steps r
unfolding of_steps_by of_steps
steps_numbered (Err k) = refl
steps_numbered (Ok None) = refl
steps_numbered (Ok (Some n)) = refl

pub judged_numbered : (r : Result Verdict Refusal) → judged_answer_by number_of r ≡ judged_answer r
unfolding judged_answer_by judged_answer
judged_numbered (Err k) = refl
judged_numbered (Ok v) = refl

pub apart_numbered : (r : Result Choice Refusal) → apart_outcome_by number_of r ≡ apart_outcome r
unfolding apart_outcome_by apart_outcome
apart_numbered (Err k) = refl
apart_numbered (Ok c) = refl
