-- What requests 2026-07 and 2026-13 of document 02 promise of a verdict: "same" or, beyond the limits, "unsettled".
use Rattle.std.specs.Prelude.{List, ◌⊎◌, ℕ}
use Rattle.verdict.specs.Verdict.{Verdict, unsettled, same}
use Rattle.verdict.specs.Outcome.{turned_back, unsettled_outcome, same_of, different_of, Says}
use Rattle.verdict.specs.Promises.{JudgeIs}

pub data SameOrUnsettled : Verdict → Type 0 where
  is_same_case : (n : ℕ) → SameOrUnsettled (same n)
  is_unsettled_case : SameOrUnsettled unsettled

-- The same of all that judge answers for the question, whatever the capacity and the work area.
pub record NeverDifferent (question : List ℕ) : Type 0 where
  pub never : (capacity : ℕ) (work : List ℕ) (r : ℕ) (after : List ℕ) → JudgeIs question capacity work r after → (n : ℕ) → ¬ Says r (different_of n)
  -- where it is not refused
  pub answers : (capacity : ℕ) (work : List ℕ) (r : ℕ) (after : List ℕ) → JudgeIs question capacity work r after
      → ((k : ℕ) → ¬ Says r (turned_back k)) → ((n : ℕ) × Says r (same_of n)) ⊎ Says r unsettled_outcome
