-- A list of changes: document 01, "A list of changes", and demand 3.
use Rattle.std.specs.Prelude.{List, [], ◌∷◌, ◌≡◌, ℕ, length, get_or}
use Rattle.calculus.specs.Definitions.{Defs}
use Rattle.calculus.specs.OpenBisimulation.{Related}
use Rattle.terms.specs.Answer.{Answer, refused, result, ◌>>=◌}
use Rattle.terms.specs.Framing.{joined}
use Rattle.terms.specs.Operations.{merge_of, beside_of, declared_fields}
use Rattle.terms.specs.Question.{Question, edition_of, question_of, fields_in}
use Rattle.terms.specs.Question.{body_of}
use Rattle.verdict.specs.Promises.{MergeIs, BesideIs, JudgeIs}

-- Δ is the question's definitions
pub record Defines (q : Question) (Δ : Defs) : Type 0 where
  pub arities : (k : ℕ) → Δ.arity k ≡ get_or q.arities k 0
  pub bodies : Δ.body ≡ body_of q.bodies

-- The parts at hand are related: some open bisimulation of Definition 13 relates them under all pairs of the apart list at hand.
pub record RelatedParts (question : List ℕ) : Type 1 where
  pub read : Question
  pub accepted : question_of question ≡ result read
  pub definitions : Defs
  pub defines : Defines read definitions
  pub related : Related definitions read.apart read.first read.second

-- An entry: its arguments, and what its operation answered and left in the area lent to it. Declaring is no operation.
pub data Entry : Type 0 where
  merging : (a b : ℕ) (area : List ℕ) (answer : ℕ) (after : List ℕ) → Entry
  besiding : (third area : List ℕ) (answer : ℕ) (after : List ℕ) → Entry
  declaring : (a b : ℕ) → Entry
  judging : (capacity : ℕ) (work : List ℕ) (answer : ℕ) (after : List ℕ) → Entry

-- The two bytes go to the end of the apart list, whose length grows by 2. If check turns that question back, the entry is refused.
unfoldable pub declare_of : List ℕ → ℕ → ℕ → Answer (List ℕ)
declare_of question a b = do
  q ← question_of question
  let longer = joined (edition_of question) (declared_fields a b (fields_in (edition_of question) q))
  r ← question_of longer
  result longer

-- a refused entry leaves the question as it was
unfoldable pub put : Answer (List ℕ) → List ℕ → List ℕ
put (refused k) question = question
put (result next) question = next

-- The question at hand after an entry follows from its arguments alone.
unfoldable pub hand_after : List ℕ → Entry → List ℕ
hand_after hand (merging a b area answer after) = put (merge_of hand a b (length area)) hand
hand_after hand (besiding third area answer after) = put (beside_of hand third (length area)) hand
hand_after hand (declaring a b) = put (declare_of hand a b) hand
hand_after hand (judging capacity work answer after) = hand

unfoldable pub hands : List ℕ → List Entry → List ℕ
hands hand [] = hand
hands hand (e ∷ es) = hands (hand_after hand e) es

-- Every entry is handed exactly the bytes at hand, and its operation keeps its promise.
unfoldable pub Kept : List ℕ → Entry → Type 0
Kept hand (merging a b area answer after) = MergeIs hand a b area answer after
Kept hand (besiding third area answer after) = BesideIs hand third area answer after
Kept hand (declaring a b) = Unit {0}
Kept hand (judging capacity work answer after) = JudgeIs hand capacity work answer after

unfoldable pub AllKept : List ℕ → List Entry → Type 0
AllKept hand [] = Unit {0}
AllKept hand (e ∷ es) = Kept hand e × AllKept (hand_after hand e) es
