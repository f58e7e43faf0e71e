-- A list of steps as it stands in an area, and what becomes of it when candidates are put into it one by one.
use Rattle.std.specs.Prelude.{List, [], ◌∷◌, ◌≡◌, ℕ, ◌+◌, ◌<◌, ◌≤◌, length, Option, Some, None}
use Rattle.terms.specs.Limits.{name_count, longest_term}
use Rattle.steps.specs.Forms.{result_form}
use Rattle.calculus.specs.Lists.{All}
use Rattle.steps.specs.Raw.{Candidate}
use Rattle.steps.specs.Derived.{Ascending}
use Rattle.steps_entries.specs.Entries.{Sized, Indexed}
use Rattle.steps.specs.Limits.{most_steps}
use Rattle.steps.specs.Listed.{ListedStep, result_bytes}
use Rattle.steps.specs.Listing.{collect, unsettled, limited}

-- The number of steps that an answer says; where it is none, a limit is passed, and so is that of the number.
abbrev pub counted : Option ℕ → ℕ
counted (Some n) = n
counted None = most_steps + 1

-- A number that an answer says passes no limit.
abbrev pub Few : Option ℕ → Type 0
Few (Some n) = n ≤ most_steps
Few None = Unit {0}

-- The entries of the area, in the order of the index, are the steps found, which pass no limit.
pub record Stands (area : List ℕ) (count : ℕ) (found : List ListedStep) : Type 0 where
  pub sized : Sized found
  pub ascending : Ascending longest_term found
  pub fit : All (λ s. length (result_bytes s) ≤ longest_term) found
  pub number : length found ≡ count
  pub indexed : Indexed area found

-- The steps found have been put into the area, and the answer is their number; an answer above the limit says that a limit is passed, and then
-- the area is not determined.
pub record Found (found : List ListedStep) (r : ℕ) (area' : List ℕ) : Type 0 where
  pub stands : r ≤ most_steps → Stands area' r found
  pub passed : most_steps < r → limited longest_term most_steps found ≡ unsettled

-- One candidate c put into the list found, for the new name x. An answer above the limit says that a limit is passed,
-- whatever comes after it.
pub record PutInto (c : Candidate) (x r : ℕ) (area' : List ℕ) (found : List ListedStep) : Type 0 where
  pub stands : r ≤ most_steps → Stands area' r (collect result_form name_count longest_term x (c ∷ []) found)
  pub passed : most_steps < r → (cs : List Candidate) → limited longest_term most_steps (collect result_form name_count longest_term x (c ∷ cs) found) ≡ unsettled

unfoldable pub PutIs : Candidate → ℕ → List ℕ → ℕ → ℕ → List ℕ → Type 0
PutIs c x area count r area' = (found : List ListedStep) → Stands area count found → PutInto c x r area' found

-- The candidates cs put into the list that stands in the area, for the new name x.
unfoldable pub CollectIs : List Candidate → ℕ → List ℕ → ℕ → ℕ → List ℕ → Type 0
CollectIs cs x area count r area' =
    (found : List ListedStep) → Stands area count found → Found (collect result_form name_count longest_term x cs found) r area'
