-- The steps of a part put into an area, one candidate after the other: what the functions that do so promise. The definitions are those of an
-- accepted question; the part need not be one of its sides.
use Rattle.std.specs.Prelude.{Bool, false, List, ◌≡◌, ℕ, ◌*◌, ◌≤◌, length, take, Option, Some, None}
use Rattle.calculus.specs.Free.{Free}
use Rattle.calculus.specs.Term.{Term}
use Rattle.calculus.specs.Tidy.{tidy}
use Rattle.terms.specs.Answer.{result}
use Rattle.terms.specs.Encoding.{encode, InScope}
use Rattle.terms.specs.Limits.{name_count, longest_term}
use Rattle.terms.specs.Question.{Question, check_of}
use Rattle.steps.specs.Limits.{most_steps, step_bytes}
use Rattle.steps.specs.Listing.{Listing, unsettled, listed, steps_of}
use Rattle.steps.specs.Operations.{list_bytes}
use Rattle.steps_entries.specs.Entries.{list_room}
use Rattle.steps_rows.specs.Rows.{row_bytes, most_rows}
use Rattle.steps_splicing.specs.ListedParts as tidied
use Rattle.steps_splicing.specs.Ready.{IsPart, PartUnrestricted}
use Rattle.steps_tallies.specs.Tally.{tally_size, BodiesTallied}

-- What listing a part needs: room for the list, for the part's tally and for its rows, and the bodies tallied.
abbrev pub CanList : (question bodies part tallies rows area : List ℕ) → Type 0
CanList question bodies part tallies rows area =
    (list_room ≤ length area) × (length part ≤ longest_term) × BodiesTallied question bodies × (length tallies ≡ tally_size) × (row_bytes * most_rows ≤ length rows)

-- The answer, and the steps at the beginning of the area. After "unsettled" it is not determined, and the operation restores its own.
unfoldable pub AnswersListing : Listing → Option ℕ → List ℕ → Type 0
AnswersListing unsettled r area' = r ≡ None
AnswersListing (listed ss) r area' = (r ≡ Some (length ss)) × (take (length ss * step_bytes) area' ≡ list_bytes ss)

-- The bytes are those of a part of a question with the definitions of q, and x may be the new name: one of the names, or the one behind them where
-- they are all in use.
pub record Lists (question part : List ℕ) (x : ℕ) (q : Question) (P : Term) : Type 0 where
  pub accepted : check_of question ≡ result q
  pub scope : InScope name_count q.arities 0 P
  pub bytes : part ≡ encode 0 P
  pub size : length (encode 0 P) ≤ longest_term
  pub new : x ≤ name_count

pub record ListPartIs (question part : List ℕ) (x : ℕ) (r : Option ℕ) (area' : List ℕ) : Type 0 where
  pub few : (n : ℕ) → r ≡ Some n → n ≤ most_steps
  pub is : (q : Question) (P : Term) → Lists question part x q P → ¬ Free x P → AnswersListing (steps_of q.bodies x P) r area'

-- The same of a part that is tidied.
pub record ListTidiedIs (question part : List ℕ) (x : ℕ) (r : Option ℕ) (area' : List ℕ) : Type 0 where
  pub few : (n : ℕ) → r ≡ Some n → n ≤ most_steps
  pub is : (q : Question) (P : Term) → tidied.Lists question part x q P → AnswersListing (steps_of q.bodies x P) r area'

-- Whether the part or a body may have a restriction.
pub record Restricted (question part : List ℕ) (restricted : Bool) : Type 0 where
  pub plain : restricted ≡ false → PartUnrestricted question part

-- The part is tidied as it is.
abbrev pub PartTidied : (question part : List ℕ) → Type 0
PartTidied question part = (q : Question) (P : Term) → IsPart question part q P → tidy P ≡ P
