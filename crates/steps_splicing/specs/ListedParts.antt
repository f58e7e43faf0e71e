-- The steps of a part put into an area, one candidate after the other: what the functions that do so promise. The definitions are those of an
-- accepted question; the part need not be one of its sides.
use Rattle.std.specs.Prelude.{List, ◌≡◌, ℕ, ◌≤◌, length}
use Rattle.calculus.specs.Term.{Term}
use Rattle.calculus.specs.Tidy.{tidy}
use Rattle.terms.specs.Answer.{result}
use Rattle.terms.specs.Encoding.{encode, InScope}
use Rattle.terms.specs.Limits.{name_count, longest_term}
use Rattle.terms.specs.Question.{Question, check_of}

-- The bytes are those of a part of a question with the definitions of q, and x may be the new name: one of the names, or the one behind them where
-- they are all in use.
pub record Lists (question part : List ℕ) (x : ℕ) (q : Question) (P : Term) : Type 0 where
  pub accepted : check_of question ≡ result q
  pub scope : InScope name_count q.arities 0 P
  pub bytes : part ≡ encode 0 P
  pub size : length (encode 0 P) ≤ longest_term
  pub new : x ≤ name_count
  -- it is tidied (document 02, request 2026-04)
  pub tidied : tidy P ≡ P
