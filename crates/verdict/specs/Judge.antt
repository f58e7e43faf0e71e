-- What judge answers and what it leaves in the work area: document 01, "Turned back, in checking order" and "The field and the verdict".
use Rattle.std.specs.Prelude.{◌&&◌, List, ◌++◌, ℕ, ◌*◌, drop, replicate, leb}
use Rattle.terms.specs.Answer.{Answer, refused, result, ◌>>=◌, ◌>>◌, need}
use Rattle.terms.specs.Question.{Question, question_with, question_of}
pub use Rattle.field.specs.Setting.{slot_bytes}
use Rattle.verdict.specs.Verdict.{Manner, openly, Verdict, verdict_by, verdict_with}

-- Check 1.
abbrev pub greatest_capacity : ℕ
greatest_capacity = 4096

-- Checks 1 and 2 of every operation with a capacity that needs so many bytes of a work area of `room` bytes.
unfoldable pub within_capacity : ℕ → ℕ → ℕ → Answer (Unit {0})
within_capacity capacity bytes room = need 1 (leb 1 capacity && leb capacity greatest_capacity) >> need 2 (leb bytes room)

-- Checks 1 and 2, then 3 to 12, then the verdict. `room` is the length of the work area.
abbrev pub judged_within : ℕ → ℕ → Answer Question → (Question → Verdict) → Answer Verdict
judged_within capacity room asked verdict = do
  within_capacity capacity (slot_bytes * capacity) room
  q ← asked
  result (verdict q)

unfoldable pub judge_by : Manner → List ℕ → ℕ → ℕ → Answer Verdict
judge_by m question capacity room = judged_within capacity room (question_of question) (λ q. verdict_by m q capacity)

-- the same over another number of names
unfoldable pub judge_with : ℕ → Manner → List ℕ → ℕ → ℕ → Answer Verdict
judge_with names m question capacity room = judged_within capacity room (question_with names question) (λ q. verdict_with names m q capacity)

-- the open verdict
abbrev pub judge_of : List ℕ → ℕ → ℕ → Answer Verdict
judge_of question capacity room = judge_by openly question capacity room

-- After every verdict the first 256 × capacity bytes are 0 and the rest untouched; after a refusal nothing is changed.
unfoldable pub work_after : Answer Verdict → ℕ → List ℕ → List ℕ
work_after (refused k) capacity work = work
work_after (result v) capacity work = replicate (slot_bytes * capacity) 0 ++ drop (slot_bytes * capacity) work
