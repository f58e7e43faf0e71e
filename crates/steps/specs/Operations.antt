-- What listing answers, and what it leaves in the lent result area: document 01, "Turned back, in checking order" and "Steps".
use Rattle.std.specs.Prelude.{cond, ◌&&◌, ◌||◌, not, List, [], ◌∷◌, ◌++◌, ◌≡◌, ℕ, ◌*◌, ◌<◌, length, drop, get_or, ltb, leb, eqb}
use Rattle.calculus.specs.Distinction.{among}
use Rattle.calculus.specs.Free.{Free, fn}
use Rattle.calculus.specs.Definitions.{Defs}
use Rattle.calculus.specs.Term.{Term}
use Rattle.terms.specs.Answer.{Answer, refused, result, ◌>>=◌, ◌>>◌, need}
use Rattle.terms.specs.Limits.{name_count, longest_term}
use Rattle.terms.specs.Question.{Question, question_of, body_of}
use Rattle.steps.specs.Forms.{result_form}
use Rattle.steps.specs.Limits.{most_steps, step_bytes}
use Rattle.steps.specs.Listed.{ListedStep, bytes}
use Rattle.steps.specs.Listing.{Listing, unsettled, listed, steps_of}
use Rattle.steps.specs.Derived.{ListsExactly}

-- Check 13: the side is 1 or 2,
unfoldable pub side_of : Question → ℕ → Answer Term
side_of q side = need 13 (eqb side 1 || eqb side 2) >> result (cond (eqb side 1) q.first q.second)

-- and the new name is one of the 16 and not free in that side.
unfoldable pub is_new : ℕ → Term → Answer (Unit {0})
is_new x P = need 13 (ltb x name_count && not (among (fn P) x))

-- Checks 3 to 12, then 13 and 15: the area must hold 256 steps. `room` is its length.
unfoldable pub list_of : List ℕ → ℕ → ℕ → ℕ → Answer Listing
list_of question side x room = do
  q ← question_of question
  P ← side_of q side
  is_new x P
  need 15 (leb (step_bytes * most_steps) room)
  result (steps_of q.bodies x P)

unfoldable pub list_bytes : List ListedStep → List ℕ
list_bytes [] = []
list_bytes (s ∷ ss) = bytes longest_term s ++ list_bytes ss

-- The result area afterwards: as it was after a refusal and after "unsettled", and behind the last listed step.
unfoldable pub area_after : Answer Listing → List ℕ → List ℕ
area_after (refused k) area = area
area_after (result unsettled) area = area
area_after (result (listed ss)) area = list_bytes ss ++ drop (length (list_bytes ss)) area

-- What a listing that no check turns back answers: the list for one side of the accepted question.
pub record ListsSide (question : List ℕ) (side x : ℕ) (r : Listing) : Type 0 where
  pub asked : Question
  pub accepted : question_of question ≡ result asked
  pub part : Term
  pub chosen : side_of asked side ≡ result part
  pub below : x < name_count
  pub fresh : ¬ Free x part
  pub steps : r ≡ steps_of asked.bodies x part
  -- for the question's definitions, of which proofs/QuestionDefinitions has one
  pub exact : (Δ : Defs) → ((k : ℕ) → Δ.arity k ≡ get_or asked.arities k 0) → Δ.body ≡ body_of asked.bodies
      → ListsExactly result_form Δ name_count longest_term most_steps x part r
