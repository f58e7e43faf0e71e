-- Demand 3 and document 01, "A list of changes", as one claim about a whole list of entries.
use Rattle.std.specs.Prelude.{◌≡◌, List, ◌∷◌, ◌++◌, ℕ, ◌*◌, ◌<◌, ◌≤◌, length, drop, replicate}
use Rattle.calculus.specs.Definitions.{Defs}
use Rattle.terms.specs.Answer.{Answer, refused, result}
use Rattle.terms.specs.Operations.{merge_of, beside_of}
use Rattle.terms.specs.Question.{Question, question_of}
use Rattle.verdict.specs.Judge.{judge_of, slot_bytes}
use Rattle.verdict.specs.Outcome.{gave, turned_back, unsettled_outcome, same_of, different_of, Outcome, Says}
use Rattle.verdict.specs.Meaning.{Means}
use Rattle.verdict.specs.Verdict.{openly}
use Rattle.verdict.specs.Promises.{CheckIs}
use Rattle.verdict.specs.Entries.{Defines, RelatedParts, Entry, merging, besiding, declaring, judging, hands}

-- A merge or beside that the definitions answer by `made`: refused with the number of the first check that turns it back, no byte changed; or
-- it wrote exactly the question that it put at hand and answered its length.
pub data Wrote (made : Answer (List ℕ)) (area : List ℕ) (answer : ℕ) (after : List ℕ) : Type 1 where
  not_written : (k : ℕ) → made ≡ refused k → Says answer (turned_back k) → after ≡ area → Wrote made area answer after
  written : (next : List ℕ) → made ≡ result next → Says answer (gave (length next)) → after ≡ next ++ drop (length next) area
      → Wrote made area answer after

-- A judging: refused in the same way; or it answered what Definition 13, the field and the limits make of the question at hand for its capacity,
-- and cleared the work area.
pub data Judged (hand : List ℕ) (capacity : ℕ) (work : List ℕ) (answer : ℕ) (after : List ℕ) : Type 1 where
  not_judged : (k : ℕ) → judge_of hand capacity (length work) ≡ refused k → Says answer (turned_back k) → after ≡ work
      → Judged hand capacity work answer after
  judged : (q : Question) → question_of hand ≡ result q → (Δ : Defs) → Defines q Δ → (o : Outcome) → Says answer o → Means openly Δ q capacity o
      → after ≡ replicate (slot_bytes * capacity) 0 ++ drop (slot_bytes * capacity) work
      → Judged hand capacity work answer after

unfoldable pub Told : List ℕ → Entry → Type 1
Told hand (merging a b area answer after) = Wrote (merge_of hand a b (length area)) area answer after
Told hand (besiding third area answer after) = Wrote (beside_of hand third (length area)) area answer after
Told hand (declaring a b) = Unit {1}
Told hand (judging capacity work answer after) = Judged hand capacity work answer after

-- the entry e stands in the list, handed `hand`
pub record Stands (start : List ℕ) (es : List Entry) (hand : List ℕ) (e : Entry) : Type 0 where
  pub before : List Entry
  pub behind : List Entry
  pub list : es ≡ before ++ (e ∷ behind)
  pub handed : hand ≡ hands start before

-- a judging of the list that was not refused
pub record JudgedIn (start : List ℕ) (es : List Entry) (hand : List ℕ) (capacity answer : ℕ) : Type 0 where
  pub work : List ℕ
  pub after : List ℕ
  pub stands : Stands start es hand (judging capacity work answer after)
  pub verdict : (k : ℕ) → ¬ Says answer (turned_back k)

-- "same" or "different"
pub data Decides : (ℕ → Outcome) → Type 0 where
  by_same : Decides same_of
  by_different : Decides different_of

pub record ListHolds (start : List ℕ) (es : List Entry) : Type 1 where
  -- after every list check answers 0 for the question at hand
  pub accepted : (before behind : List Entry) → es ≡ before ++ behind → (r : ℕ) → CheckIs (hands start before) r → Says r (gave 0)
  -- each operation refused exactly what a numbered check turns back, and wrote or answered what the definitions say
  pub told : (hand : List ℕ) (e : Entry) → Stands start es hand e → Told hand e
  -- once related, the parts are related after every later entry
  pub related : (before later behind : List Entry) → es ≡ before ++ (later ++ behind) → RelatedParts (hands start before)
      → RelatedParts (hands start (before ++ later))
  -- once "same" is answered, they are related
  pub same_related : (hand : List ℕ) (capacity answer n : ℕ) → JudgedIn start es hand capacity answer → Says answer (same_of n) → RelatedParts hand
  -- and no later judging, whatever its capacity, answers "different"
  pub never_different : (before behind : List Entry) → es ≡ before ++ behind → RelatedParts (hands start before)
      → (hand : List ℕ) (capacity answer n : ℕ) → JudgedIn (hands start before) behind hand capacity answer → ¬ Says answer (different_of n)
  -- of two judgings of that very question the second answers what the first did if its capacity is at least n, and otherwise "unsettled"
  pub enough : (hand : List ℕ) (c d r s n : ℕ) (o : ℕ → Outcome) → Decides o → JudgedIn start es hand c r → Says r (o n)
      → JudgedIn start es hand d s → n ≤ d → Says s (o n)
  pub short : (hand : List ℕ) (c d r s n : ℕ) (o : ℕ → Outcome) → Decides o → JudgedIn start es hand c r → Says r (o n)
      → JudgedIn start es hand d s → d < n → Says s unsettled_outcome
