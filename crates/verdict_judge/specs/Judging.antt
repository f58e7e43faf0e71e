-- What the code of judge answers, as document 01 has it, and what it promises, in each manner of judging.
use Rattle.std.specs.Prelude.{Result, Ok, Err, List, ◌++◌, ◌≡◌, ℕ, ◌*◌, length, drop, replicate}
use Rattle.terms.specs.Answer.{Answer, refused, result}
use Rattle.terms.specs.Question.{Question, check_of, question_of}
use Rattle.verdict.specs.Judge.{slot_bytes, judge_by, work_after}
use Rattle.verdict.specs.Verdict.{Manner, Verdict, unsettled, same, different, verdict_by}
use Rattle.terms_bytes.specs.Refusals.{number_of}
use Rattle.terms_bytes.specs.declared.answer.Refusal.{Refusal}
use Rattle.verdict_judge.specs.declared.judge.Verdict as told
use Rattle.verdict_judge.specs.declared.judge.Verdict.TheVariants.{Unsettled, Same, Different}

-- The verdict and n.
unfoldable pub verdict_told : told.Verdict → Verdict
verdict_told Unsettled = unsettled
verdict_told (Same n) = same n
verdict_told (Different n) = different n

-- The number of the check that turns back, or the verdict and n.
unfoldable pub judged_answer : Result told.Verdict Refusal → Answer Verdict
judged_answer (Err k) = refused (number_of k)
judged_answer (Ok v) = result (verdict_told v)

-- The verdict on an accepted question. What is left in the first 256 × capacity bytes is not determined: they are cleared next.
pub record DecidesIs (manner : Manner) (question : List ℕ) (capacity : ℕ) (work : List ℕ) (r : told.Verdict) (work' : List ℕ) : Type 0 where
  pub rest : drop (slot_bytes * capacity) work' ≡ drop (slot_bytes * capacity) work
  pub is : (q : Question) → check_of question ≡ result q → verdict_told r ≡ verdict_by manner q capacity

-- The same with the work area cleared.
pub record AcceptedIs (manner : Manner) (question : List ℕ) (capacity : ℕ) (work : List ℕ) (r : told.Verdict) (work' : List ℕ) : Type 0 where
  pub left : work' ≡ replicate (slot_bytes * capacity) 0 ++ drop (slot_bytes * capacity) work
  pub is : (q : Question) → check_of question ≡ result q → verdict_told r ≡ verdict_by manner q capacity

-- The same for a question of either edition.
pub record OwnIs (manner : Manner) (question : List ℕ) (capacity : ℕ) (work : List ℕ) (r : told.Verdict) (work' : List ℕ) : Type 0 where
  pub left : work' ≡ replicate (slot_bytes * capacity) 0 ++ drop (slot_bytes * capacity) work
  pub is : (q : Question) → question_of question ≡ result q → verdict_told r ≡ verdict_by manner q capacity

-- Judge: the answer and every byte of the work area.
pub record JudgedIs (manner : Manner) (question : List ℕ) (capacity : ℕ) (work : List ℕ) (r : Result told.Verdict Refusal) (work' : List ℕ) : Type 0 where
  pub answer : judged_answer r ≡ judge_by manner question capacity (length work)
  pub left : work' ≡ work_after (judge_by manner question capacity (length work)) capacity work
