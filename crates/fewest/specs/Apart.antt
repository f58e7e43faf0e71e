-- What the search for the fewest pairs answers and leaves in its two areas: document 02, request 2026-06.
use Rattle.std.specs.Prelude.{Bool, true, ◌&&◌, not, List, [], ◌∷◌, ◌++◌, ◌≡◌, ℕ, ◌*◌, leb, ltb, length, drop, replicate}
use Rattle.calculus.specs.Cond.{Pairs}
use Rattle.calculus.specs.Distinction.{among}
use Rattle.terms.specs.Answer.{Answer, refused, result, ◌>>=◌, ◌>>◌, need}
use Rattle.terms.specs.Limits.{name_count, longest_apart}
use Rattle.terms.specs.Question.{every, question_of, pair_bytes}
use Rattle.verdict.specs.Judge.{slot_bytes, within_capacity}
use Rattle.verdict.specs.Outcome.{Outcome, gave, turned_back, unsettled_outcome, none_outcome, Says}
use Rattle.fewest.specs.Choices.{enlarged}
use Rattle.fewest.specs.Fewest.{Fewest, undecided, none, chosen, fewest_of}

abbrev pub most_names : ℕ
most_names = 4

unfoldable pub no_repeat : List ℕ → Bool
no_repeat [] = true
no_repeat (n ∷ ns) = not (among ns n) && no_repeat ns

-- Check 18: at most four names, all of them names, none twice.
unfoldable pub names_given : List ℕ → Bool
names_given names = leb (length names) most_names && every (λ n. ltb n name_count) names && no_repeat names

-- the list that is written for a choice
unfoldable pub list_for : Pairs → Fewest → Fewest
list_for apart undecided = undecided
list_for apart none = none
list_for apart (chosen c) = chosen (enlarged name_count apart c)

-- Checks 1 and 2, then 3 to 12 in the question's own edition, then 18 and 15. `room` and `space` are the lengths of the work area and of the result area.
unfoldable pub apart_of : List ℕ → ℕ → List ℕ → ℕ → ℕ → Answer Fewest
apart_of question capacity names room space = do
  within_capacity capacity (slot_bytes * capacity) room
  q ← question_of question
  need 18 (names_given names)
  need 15 (leb longest_apart space)
  result (list_for q.apart (fewest_of q capacity names))

unfoldable pub of_fewest : Answer Fewest → Outcome
of_fewest (refused k) = turned_back k
of_fewest (result undecided) = unsettled_outcome
of_fewest (result none) = none_outcome
of_fewest (result (chosen D)) = gave (length (pair_bytes D))

-- After every answer but a refusal the first 256 × capacity bytes of the work area are 0.
unfoldable pub work_after : Answer Fewest → ℕ → List ℕ → List ℕ
work_after (refused k) capacity work = work
work_after (result f) capacity work = replicate (slot_bytes * capacity) 0 ++ drop (slot_bytes * capacity) work

-- The winner's list is written, and no other byte of the result area.
unfoldable pub area_after : Answer Fewest → List ℕ → List ℕ
area_after (refused k) area = area
area_after (result undecided) area = area
area_after (result none) area = area
area_after (result (chosen D)) area = pair_bytes D ++ drop (length (pair_bytes D)) area

-- The promise of the exported operation: the answer and both areas.
pub record ApartIs (question : List ℕ) (capacity : ℕ) (names work area : List ℕ) (r : ℕ) (work' area' : List ℕ) : Type 0 where
  pub answer : Says r (of_fewest (apart_of question capacity names (length work) (length area)))
  pub cleared : work' ≡ work_after (apart_of question capacity names (length work) (length area)) capacity work
  pub left : area' ≡ area_after (apart_of question capacity names (length work) (length area)) area
