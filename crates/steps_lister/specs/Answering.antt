-- What the listing operation promises: its answer and its whole area are those of the definition (Operations).
use Rattle.std.specs.Prelude.{cond, List, ◌≡◌, ℕ, eqb, length, Option, Some, None, Result, Ok, Err}
use Rattle.calculus.specs.Free.{Free}
use Rattle.calculus.specs.Term.{Term}
use Rattle.terms.specs.Answer.{Answer, refused, result}
use Rattle.terms.specs.Encoding.{encode}
use Rattle.terms.specs.Question.{Question, check_of}
use Rattle.steps.specs.Listing.{Listing, unsettled, listed, steps_of}
use Rattle.steps.specs.Operations.{area_after}
use Rattle.steps_lister.specs.PartLister.{Lists}
use Rattle.terms_bytes.specs.Refusals.{number_of}
use Rattle.terms_bytes.specs.declared.answer.Refusal.{Refusal}

-- What the code answers: the number of the check, or how many steps there are, none where they are unsettled.
unfoldable pub steps_answer : Result (Option ℕ) Refusal → Answer (Option ℕ)
steps_answer (Ok n) = result n
steps_answer (Err k) = refused (number_of k)

-- The same of the definition's answer.
unfoldable pub count_told : Answer Listing → Answer (Option ℕ)
count_told (refused k) = refused k
count_told (result unsettled) = result None
count_told (result (listed ss)) = result (Some (length ss))

-- The answer and the whole area, where m is the listing or the check that turns it back.
pub record DoesList (m : Answer Listing) (area : List ℕ) (r : Result (Option ℕ) Refusal) (area' : List ℕ) : Type 0 where
  pub answer : steps_answer r ≡ count_told m
  pub left : area' ≡ area_after m area

-- the side of this number, 1 or 2
unfoldable pub side_term : Question → ℕ → Term
side_term q side = cond (eqb side 1) q.first q.second

unfoldable pub SideIs : List ℕ → ℕ → List ℕ → Type 0
SideIs question side r = (q : Question) → check_of question ≡ result q → r ≡ encode 0 (side_term q side)

-- The steps of a part of the question's definitions, or nothing written.
unfoldable pub ListsInto : List ℕ → List ℕ → ℕ → List ℕ → Option ℕ → List ℕ → Type 0
ListsInto question part x area r area' =
    (q : Question) (P : Term) → Lists question part x q P → ¬ Free x P → DoesList (result (steps_of q.bodies x P)) area (Ok r) area'
