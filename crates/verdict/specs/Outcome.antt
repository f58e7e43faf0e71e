-- What an operation answers, and the number that carries it over the C boundary: kind × 2^32 + number.
use Rattle.std.specs.Prelude.{◌≡◌, ℕ, ◌+◌, ◌*◌, ◌<◌, length}
use Rattle.terms.specs.Answer.{Answer, refused, result}
use Rattle.steps.specs.Listing.{Listing, listed}
use Rattle.steps.specs.Listing.{unsettled as unsettledListing}
use Rattle.verdict.specs.Verdict.{Verdict, unsettled, same, different}

-- A result, a refusal by the number of its check, a verdict, or none where something was looked for.
pub data Outcome : Type 0 where
  gave : ℕ → Outcome
  turned_back : ℕ → Outcome
  unsettled_outcome : Outcome
  same_of : ℕ → Outcome
  different_of : ℕ → Outcome
  none_outcome : Outcome

abbrev pub kind_step : ℕ
kind_step = 4294967296

unfoldable pub coded : ℕ → ℕ → ℕ
coded kind n = kind * kind_step + n

unfoldable pub code_of : Outcome → ℕ
code_of (gave n) = coded 0 n
code_of (turned_back k) = coded 1 k
code_of unsettled_outcome = coded 2 0
code_of (same_of n) = coded 3 n
code_of (different_of n) = coded 4 n
code_of none_outcome = coded 5 0

-- the number leaves room for the kind
unfoldable pub Small : Outcome → Type 0
Small (gave n) = n < kind_step
Small (turned_back k) = k < kind_step
Small unsettled_outcome = Unit {0}
Small (same_of n) = n < kind_step
Small (different_of n) = n < kind_step
Small none_outcome = Unit {0}

-- r says o: no number says two outcomes (proofs/OutcomeLaws)
pub record Says (r : ℕ) (o : Outcome) : Type 0 where
  pub number : r ≡ code_of o
  pub small : Small o

-- check answers 0, merge and beside the length written
unfoldable pub of_number : Answer ℕ → Outcome
of_number (refused k) = turned_back k
of_number (result n) = gave n

-- listing answers the count of steps
unfoldable pub of_listing : Answer Listing → Outcome
of_listing (refused k) = turned_back k
of_listing (result unsettledListing) = unsettled_outcome
of_listing (result (listed ss)) = gave (length ss)

-- judge answers its verdict and n
unfoldable pub of_verdict : Answer Verdict → Outcome
of_verdict (refused k) = turned_back k
of_verdict (result unsettled) = unsettled_outcome
of_verdict (result (same n)) = same_of n
of_verdict (result (different n)) = different_of n
