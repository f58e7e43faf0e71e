-- What an operation that writes a question promises, and its writing half where no check turns it back.
use Rattle.std.specs.Prelude.{◌≡◌, true, ◌&&◌, List, ℕ, ◌+◌, ◌<◌, ◌≤◌, length, Result, Ok, Err}
use Rattle.calculus.specs.Term.{Term}
use Rattle.terms.specs.Limits.{name_count, longest_term}
use Rattle.terms.specs.Answer.{Answer, refused, result}
use Rattle.terms.specs.Edition.{Edition, one, encode_in}
use Rattle.terms.specs.Reading.{numbered}
use Rattle.terms.specs.Grammar.{parallel_outermost}
use Rattle.terms.specs.Operations.{merged_question, beside_question, fits_beside, length_written, area_after}
use Rattle.terms.specs.Question.{Question, fits, read_part, check_of, edition_of, question_of, write_in}
use Rattle.terms_bytes.specs.Refusals.{number_of}
use Rattle.terms_bytes.specs.declared.answer.Refusal.{Refusal}

-- The length written, or the number of the check that turned the operation back, as an answer of document 01.
unfoldable pub written_answer : Result ℕ Refusal → Answer ℕ
written_answer (Ok n) = result n
written_answer (Err k) = refused (number_of k)

-- The answer and the whole area, where m is what the operation writes or the check that turns it back.
pub record Does (m : Answer (List ℕ)) (area : List ℕ) (r : Result ℕ Refusal) (area' : List ℕ) : Type 0 where
  pub answer : written_answer r ≡ length_written m
  pub left : area' ≡ area_after m area

-- The question passes checks 3 to 12, in its own edition; it is plain if that is edition one.
unfoldable pub IsAccepted : List ℕ → Type 0
IsAccepted question = (q : Question) × (question_of question ≡ result q)

unfoldable pub Plain : List ℕ → Type 0
Plain question = (q : Question) × (check_of question ≡ result q)

-- The question q is written in an edition, its length answered.
unfoldable pub Writes : Edition → Question → List ℕ → ℕ → List ℕ → Type 0
Writes e q area r area' = (r ≡ length (write_in e q)) × (area' ≡ area_after (result (write_in e q)) area)

-- Merging a plain question, where a merged question is as long as it was.
pub record MayMerge (question : List ℕ) (a b : ℕ) (area : List ℕ) : Type 0 where
  pub accepted : Plain question
  pub small : a < name_count
  pub small' : b < name_count
  pub room : length question ≤ length area

unfoldable pub WritesMerged : List ℕ → ℕ → ℕ → List ℕ → ℕ → List ℕ → Type 0
WritesMerged question a b area r area' = (q : Question) → check_of question ≡ result q → Writes one (merged_question a b q) area r area'

-- The third part passes checks 6 to 10 beside an accepted question.
pub record MayBeBeside (question third : List ℕ) : Type 0 where
  pub old : Question
  pub accepted : question_of question ≡ result old
  pub part : Term
  pub reads : read_part (edition_of question) (numbered old.arities) third ≡ result part
  pub sizes : (fits third && fits_beside (edition_of question) third old.first && fits_beside (edition_of question) third old.second) ≡ true
  pub parallels : parallel_outermost part ≡ true

-- A third part beside both sides: each side grows by byte 07 and the third part.
pub record MayPlaceBeside (question third area : List ℕ) : Type 0 where
  pub old : Question
  pub accepted : question_of question ≡ result old
  pub first : 1 + length (encode_in (edition_of question) 0 old.first) + length third ≤ longest_term
  pub second : 1 + length (encode_in (edition_of question) 0 old.second) + length third ≤ longest_term
  pub room : length question + (1 + length third + (1 + length third)) ≤ length area

unfoldable pub WritesBeside : List ℕ → List ℕ → List ℕ → ℕ → List ℕ → Type 0
WritesBeside question third area r area' =
    (q : Question) (R : Term) → question_of question ≡ result q → third ≡ encode_in (edition_of question) 0 R
    → Writes (edition_of question) (beside_question R q) area r area'
