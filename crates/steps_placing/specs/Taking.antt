-- The steps of a part put into an area, one candidate after the other: what the functions that do so promise. The definitions are those of an
-- accepted question; the part need not be one of its sides.
use Rattle.std.specs.Prelude.{Bool, true, List, ◌≡◌, ℕ, ◌<◌, ◌≤◌, length, get_or, ◌+◌, Option, Some, None}
use Rattle.calculus.specs.Abstraction.{Act}
use Rattle.calculus.specs.Cond.{Cond}
use Rattle.calculus.specs.Term.{Term, ren}
use Rattle.terms.specs.Encoding.{encode}
use Rattle.terms.specs.Limits.{name_count}
use Rattle.terms_bytes.specs.Shape.{height}
use Rattle.terms.specs.Question.{Question}
use Rattle.steps_conditions.specs.Labels.{HeaderIs, Labels}
use Rattle.terms.specs.Question.{body_of}
use Rattle.steps_tallies.specs.Candidates.{candidates}
use Rattle.steps.specs.Raw.{Candidate, step, blocked}
use Rattle.steps_plans.specs.Plans.{receiving, Writes}
use Rattle.steps_conditions.specs.declared.action.Label.{Label}
use Rattle.steps_splicing.specs.Collecting.{PutIs}
use Rattle.steps_splicing.specs.ListedParts.{Lists}

-- the silent candidates of the part, or its visible ones
unfoldable pub candidates_of : Bool → Question → Term → List Candidate
candidates_of silently q P = candidates silently (body_of q.bodies) 1 P

-- The free names are written as a table has them: each as its class, or as itself.
unfoldable pub NamesAre : List ℕ → List ℕ → Type 0
NamesAre class names = (n : ℕ) → n < name_count → get_or names n 0 ≡ get_or class n 0

-- Where the bytes end that were written into an area; where the answer is none there was no room for them: past its end.
abbrev pub ended_in : List ℕ → Option ℕ → ℕ
ended_in out (Some e) = e
ended_in out None = length out + 1

-- An end that an answer says is in the area.
abbrev pub InArea : List ℕ → Option ℕ → Type 0
InArea out (Some e) = e ≤ length out
InArea out None = Unit {0}

-- The result of a candidate, rewritten by a table of the free names. By the classes of the condition it is that in canonical form (document 01,
-- "Action and result are rewritten by the condition").
unfoldable pub ResultIs : List ℕ → List ℕ → Bool → ℕ → List ℕ → ℕ → List ℕ → ℕ → List ℕ → Type 0
ResultIs question part silently i class x out r out' =
    (low : Bool) (q : Question) (P : Term) → Lists question part x q P
    → (M : Cond) (α : Act) (A : Term) → get_or (candidates_of silently q P) i blocked ≡ step M α A
    → (ρ : ℕ → ℕ) → ((n : ℕ) → n < name_count → (get_or class n 0 ≡ ρ n) × (ρ n < name_count))
    → (low ≡ true → height A ≤ 128)
    → Writes low out 0 (encode 0 (ren (receiving x ρ α) A)) r out'

-- A step with this header.
unfoldable pub PutStepIs : List ℕ → List ℕ → Bool → ℕ → Label → ℕ → List ℕ → ℕ → ℕ → List ℕ → Type 0
PutStepIs question part silently i h x area count r area' =
    (q : Question) (P : Term) → Lists question part x q P
    → (M : Cond) (α : Act) (A : Term) → get_or (candidates_of silently q P) i blocked ≡ step M α A → HeaderIs 0 M α h
    → PutIs (step M α A) x area count r area'

-- The label of one candidate by its number.
pub record LabelIs (question part : List ℕ) (silently : Bool) (i : ℕ) (h : Option Label) : Type 0 where
  pub is : (x : ℕ) (q : Question) (P : Term) → Lists question part x q P → i < length (candidates_of silently q P)
      → Labels 0 (get_or (candidates_of silently q P) i blocked) h

-- One candidate by its number.
unfoldable pub TakeIs : List ℕ → List ℕ → Bool → ℕ → ℕ → List ℕ → ℕ → ℕ → List ℕ → Type 0
TakeIs question part silently i x area count r area' =
    (q : Question) (P : Term) → Lists question part x q P → i < length (candidates_of silently q P)
    → PutIs (get_or (candidates_of silently q P) i blocked) x area count r area'
