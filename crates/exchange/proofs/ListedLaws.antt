-- The outcome of the listing operation is that of the definition's answer. Assumes nothing.
use mathlib.Core.Path.{◌≡◌, refl, ap, ◌∙◌}
use Prim.Native.Nat.{ℕ}
use Rattle.std.specs.Prelude.{Option, Some, None, Result, Ok, Err}
use Rattle.terms.specs.Answer.{Answer, refused, result}
use Rattle.terms_bytes.specs.Refusals.{number_of}
use Rattle.terms_bytes.specs.declared.answer.Refusal.{Refusal}
use Rattle.steps_lister.specs.Answering.{steps_answer, count_told}
use Rattle.steps.specs.Listing.{Listing, unsettled, listed}
use Rattle.verdict.specs.Outcome.{Outcome, gave, turned_back, unsettled_outcome, of_listing}
use Rattle.exchange_codes.specs.Listed.{of_steps}

of_count : Answer (Option ℕ) → Outcome
of_count (refused k) = turned_back k
of_count (result None) = unsettled_outcome
of_count (result (Some n)) = gave n

from_code : (r : Result (Option ℕ) Refusal) → of_steps r ≡ of_count (steps_answer r)
unfolding of_steps steps_answer of_count
from_code (Err k) = refl
from_code (Ok None) = refl
from_code (Ok (Some n)) = refl

from_definition : (m : Answer Listing) → of_count (count_told m) ≡ of_listing m
unfolding count_told of_count of_listing
from_definition (refused k) = refl
from_definition (result unsettled) = refl
from_definition (result (listed ss)) = refl

pub of_steps_lem : (m : Answer Listing) (r : Result (Option ℕ) Refusal) → steps_answer r ≡ count_told m → of_steps r ≡ of_listing m
of_steps_lem m r e = from_code r ∙ ap of_count e ∙ from_definition m
