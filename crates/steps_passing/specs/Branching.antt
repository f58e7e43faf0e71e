-- Where the term stands that has a candidate of a term above it: what the functions that go down to it promise.
use Rattle.std.specs.Prelude.{◌≡◌, Bool, false, List, ◌++◌, ℕ, ◌<◌, ◌≤◌, length, get_or, drop}
use Rattle.calculus.specs.Term.{Term, ren}
use Rattle.terms.specs.Answer.{result}
use Rattle.terms.specs.Encoding.{encode, InScope}
use Rattle.terms.specs.Question.{Question, check_of}
use Rattle.terms.specs.Question.{body_of}
use Rattle.steps_tallies.specs.Candidates.{candidates, OwnNamesIf}
use Rattle.steps_passing.specs.Passing.{PassIs}
use Rattle.steps.specs.Raw.{Candidate, blocked}
use Rattle.steps_tallies.specs.Tally.{TallyIs}
use Rattle.steps_passing.specs.declared.pass.Branch.{Branch}
use Rattle.steps_passing.specs.declared.pass.Passed.{Passed}

-- A term stands at `at` whose candidate of this number is c, if σ puts names for those of the bytes.
pub record HasAt (q : Question) (s : List ℕ) (silently : Bool) (calls free D : ℕ) (σ : ℕ → ℕ) (c : Candidate) (at number : ℕ) : Type 0 where
  pub term : Term
  pub rest : List ℕ
  pub scope : InScope free q.arities D term
  pub stands : drop at s ≡ encode D term ++ rest
  pub candidate : get_or (candidates silently (body_of q.bodies) calls (ren σ term)) number blocked ≡ c

-- The candidate of the term at `at` is that of this other number of the term at b.
unfoldable pub Reaches : (s t : List ℕ) (at : ℕ) (silently : Bool) (number b n : ℕ) → Type 0
Reaches s t at silently number b n =
    (question : List ℕ) (calls : ℕ) → TallyIs question s calls t
    → (q : Question) (free D : ℕ) (σ : ℕ → ℕ) → OwnNamesIf calls σ → (P : Term) (rest : List ℕ)
    → check_of question ≡ result q
    → InScope free q.arities D P
    → drop at s ≡ encode D P ++ rest
    → HasAt q s silently calls free D σ (get_or (candidates silently (body_of q.bodies) calls (ren σ P)) number blocked) b n

pub record BranchIs (s t : List ℕ) (at : ℕ) (silently : Bool) (number : ℕ) (r : Branch) : Type 0 where
  pub on : at ≤ r.at
  pub past : at < length s → get_or s at 0 ≡ 6 → at < r.at
  pub is : Reaches s t at silently number r.at r.number

-- The action of the visible candidate of this number of the term at `at` does what that of the other number of the term at b does.
unfoldable pub Acts : (s t : List ℕ) (at number b n : ℕ) → Type 0
Acts s t at number b n =
    (question : List ℕ) (D calls : ℕ) (r : Passed) → TallyIs question s calls t
    → PassIs question s b D calls false n r
    → PassIs question s at D calls false number r

-- Beneath matches, choices and parallels.
pub record SourceIs (s t : List ℕ) (at number : ℕ) (r : Branch) : Type 0 where
  pub on : at ≤ r.at
  pub ended : r.at < length s → 4 < get_or s r.at 0 → get_or s r.at 0 < 8 → ⊥
  pub is : Acts s t at number r.at r.number
