-- Merging a question of edition two by way of edition one, where no check turns it back.
use Rattle.std.specs.Prelude.{◌≡◌, false, List, ℕ, ◌<◌, ◌≤◌, length}
use Rattle.terms.specs.Answer.{result}
use Rattle.terms.specs.Edition.{two}
use Rattle.terms.specs.Limits.{name_count}
use Rattle.terms.specs.Operations.{holds_apart, merged_question}
use Rattle.terms.specs.Question.{Question, check_in}
use Rattle.terms_bytes.specs.Writing.{Writes}

pub record MayMergeCounted (question : List ℕ) (a b : ℕ) (area : List ℕ) : Type 0 where
  pub old : Question
  pub accepted : check_in two question ≡ result old
  pub small : a < name_count
  pub small' : b < name_count
  pub not_apart : holds_apart old.apart a b ≡ false
  pub room : length question ≤ length area

unfoldable pub WritesMergedCounted : List ℕ → ℕ → ℕ → List ℕ → ℕ → List ℕ → Type 0
WritesMergedCounted question a b area r area' = (q : Question) → check_in two question ≡ result q → Writes two (merged_question a b q) area r area'
