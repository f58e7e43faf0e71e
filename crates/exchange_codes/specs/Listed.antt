-- The answer of the listing operation as an outcome.
use Rattle.std.specs.Prelude.{ℕ, Option, Some, None, Result, Ok, Err}
use Rattle.terms_bytes.specs.Refusals.{number_of}
use Rattle.terms_bytes.specs.declared.answer.Refusal.{Refusal}
use Rattle.verdict.specs.Outcome.{Outcome, gave, turned_back, unsettled_outcome}

unfoldable pub of_steps : Result (Option ℕ) Refusal → Outcome
of_steps (Err k) = turned_back (number_of k)
of_steps (Ok None) = unsettled_outcome
of_steps (Ok (Some n)) = gave n
