-- The tidied result of a candidate: what the function that writes it promises.
use Rattle.std.specs.Prelude.{◌≡◌, Bool, List, ℕ, ◌<◌, ◌≤◌, length, get_or}
use Rattle.std.proofs.lemmas.List.Edits.{sets}
use Rattle.calculus.specs.Abstraction.{Act}
use Rattle.calculus.specs.Cond.{Cond, cls}
use Rattle.calculus.specs.Term.{Term, ren}
use Rattle.calculus.specs.Tidy.{tidy}
use Rattle.terms.specs.Encoding.{encode}
use Rattle.terms.specs.Limits.{name_count}
use Rattle.terms.specs.Question.{Question}
use Rattle.terms_bytes.specs.Shape.{height}
use Rattle.terms_tidying.specs.Tidying.{longest_raw}
use Rattle.steps.specs.Raw.{step, blocked}
use Rattle.steps_plans.specs.Plans.{receiving}
use Rattle.steps_splicing.specs.ListedParts.{Lists}
use Rattle.steps_placing.specs.Taking.{candidates_of}

-- Stored from the start of the area, where before it is tidied it fits the raw buffer and every index of a binder has a byte.
unfoldable pub TidiedResultIs : List ℕ → List ℕ → Bool → ℕ → List ℕ → ℕ → List ℕ → ℕ → List ℕ → Type 0
TidiedResultIs question part silently i class x out r out' =
    (q : Question) (P : Term) → Lists question part x q P
    → (M : Cond) (α : Act) (A : Term) → get_or (candidates_of silently q P) i blocked ≡ step M α A
    → ((n : ℕ) → n < name_count → get_or class n 0 ≡ cls M n)
    → height A ≤ 128
    → length (encode 0 A) ≤ longest_raw
    → (r ≡ length (encode 0 (tidy (ren (receiving x (cls M) α) A)))) × (out' ≡ sets out 0 (encode 0 (tidy (ren (receiving x (cls M) α) A))))
