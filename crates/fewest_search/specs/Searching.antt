-- What the code of the search promises.
use Rattle.std.specs.Prelude.{Option, Result, Ok, List, [], ◌∷◌, ◌++◌, map, ◌≡◌, ℕ, ◌*◌, ◌≤◌, length, drop, replicate}
use Rattle.calculus.specs.Cond.{Pairs}
use Rattle.terms.specs.Answer.{Answer, result}
use Rattle.terms.specs.Limits.{name_count}
use Rattle.terms.specs.Question.{Question, question_of, pair_bytes}
use Rattle.field_pairs.specs.Slot.{flags_of}
use Rattle.verdict.specs.Judge.{slot_bytes, greatest_capacity}
use Rattle.verdict.specs.Verdict.{Verdict, verdict_of}
use Rattle.verdict_judge.specs.Judging.{judged_answer}
use Rattle.verdict_judge.specs.declared.judge.Verdict as judged
use Rattle.terms_bytes.specs.declared.answer.Refusal.{Refusal}
use Rattle.fewest.specs.Apart.{of_fewest, work_after, area_after, apart_of}
use Rattle.fewest.specs.Choices.{choices, all_choices, in_order, under_list}
use Rattle.fewest.specs.Fewest.{Fewest, fewest_by, fewest_of}
use Rattle.fewest_lists.specs.Bests.{Best, BestIs, followed_by, mapped, apart_outcome}
use Rattle.fewest_lists.specs.declared.best.Choice.{Choice}

-- Checks 1 and 2 have passed; `room` is the length of the work area.
pub record Allowed (capacity room : ℕ) : Type 0 where
  pub some : 1 ≤ capacity
  pub most : capacity ≤ greatest_capacity
  pub fits : slot_bytes * capacity ≤ room

-- the work area cleared
unfoldable pub cleared_by : ℕ → List ℕ → List ℕ
cleared_by capacity work = replicate (slot_bytes * capacity) 0 ++ drop (slot_bytes * capacity) work

-- the verdict on the question under the pairs D
unfoldable pub verdict_on : Question → ℕ → Pairs → Verdict
verdict_on q capacity D = verdict_of (under_list q (in_order name_count D)) capacity

-- One list: its verdict, and the work area cleared.
pub record Judges (q : Question) (D : Pairs) (capacity : ℕ) (work : List ℕ) (r : Result judged.Verdict Refusal) (work' : List ℕ) : Type 0 where
  pub verdict : judged_answer r ≡ result (verdict_on q capacity D)
  pub cleared : work' ≡ cleared_by capacity work

unfoldable pub ListJudged : List ℕ → List ℕ → ℕ → List ℕ → Result judged.Verdict Refusal → List ℕ → Type 0
ListJudged question flags capacity work r work' =
    (q : Question) (D : Pairs) → question_of question ≡ result q → flags ≡ flags_of D → Judges q D capacity work r work'

-- What is known after lists of pairs are judged, and the work area.
pub record Knows (q : Question) (capacity : ℕ) (f : Fewest) (r : Best) (work work' : List ℕ) : Type 0 where
  pub best : BestIs r f
  pub area : work' ≡ work

unfoldable pub NextIs : List ℕ → List ℕ → Option (List ℕ) → ℕ → List ℕ → Best → List ℕ → Type 0
NextIs question flags best capacity work r work' =
    (q : Question) (D : Pairs) (f : Fewest) → question_of question ≡ result q → flags ≡ flags_of D → BestIs (Ok best) f
    → Knows q capacity (followed_by f (fewest_by (verdict_on q capacity) (D ∷ []))) r (cleared_by capacity work) work'

-- In a work area that is clear the choices of `size` of the pairs ps leave it so.
unfoldable pub SearchedIs : List ℕ → List ℕ → ℕ → ℕ → List ℕ → Option (List ℕ) → ℕ → List ℕ → Best → List ℕ → Type 0
SearchedIs question pairs at size flags best capacity work r work' =
    (q : Question) (D ps : Pairs) (f : Fewest) → question_of question ≡ result q → flags ≡ flags_of D → drop at pairs ≡ pair_bytes ps → BestIs (Ok best) f
    → cleared_by capacity work ≡ work
    → Knows q capacity (followed_by f (fewest_by (verdict_on q capacity) (map (D ++◌) (choices ps size)))) r work work'

unfoldable pub SizesIs : List ℕ → List ℕ → List ℕ → ℕ → List ℕ → Best → List ℕ → Type 0
SizesIs question pairs flags capacity work r work' =
    (q : Question) (D ps : Pairs) → question_of question ≡ result q → flags ≡ flags_of D → pairs ≡ pair_bytes ps
    → Knows q capacity (fewest_by (verdict_on q capacity) (map (D ++◌) (all_choices ps))) r (cleared_by capacity work) work'

unfoldable pub FoundIs : List ℕ → ℕ → List ℕ → List ℕ → Best → List ℕ → Type 0
FoundIs question capacity names work r work' =
    (q : Question) → question_of question ≡ result q
    → Knows q capacity (mapped (q.apart ++◌) (fewest_of q capacity names)) r (cleared_by capacity work) work'

-- The answer and both areas.
pub record ApartDoes (m : Answer Fewest) (capacity : ℕ) (work area : List ℕ) (r : Result Choice Refusal) (work' area' : List ℕ) : Type 0 where
  pub answer : apart_outcome r ≡ of_fewest m
  pub cleared : work' ≡ work_after m capacity work
  pub left : area' ≡ area_after m area

unfoldable pub CheckedIs : List ℕ → ℕ → List ℕ → List ℕ → List ℕ → Result Choice Refusal → List ℕ → List ℕ → Type 0
CheckedIs question capacity names work area r work' area' =
    ApartDoes (apart_of question capacity names (length work) (length area)) capacity work area r work' area'
