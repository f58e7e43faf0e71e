-- The situation that a step and its answer lead to (`moves`), and what the code that writes it promises.
use Rattle.std.specs.Prelude.{◌≡◌, List, ℕ, ◌<◌}
use Rattle.std.proofs.lemmas.List.Edits.{sets}
use Rattle.calculus.specs.Term.{ren, put}
use Rattle.terms.specs.Encoding.{InScope}
use Rattle.terms.specs.Limits.{name_count}
use Rattle.steps.specs.Listed.{ListedStep, class_in}
use Rattle.field_pairs.specs.Entry.{EntryAt, Rewritten}
use Rattle.field_pairs.specs.Slot.{part_bytes}

-- The result of the step at `at`, as a part.
unfoldable pub CopiesResult : List ℕ → ℕ → List ℕ → ℕ → List ℕ → Type 0
CopiesResult area at slot put slot' = (s : ListedStep) → EntryAt area at s → slot' ≡ sets slot put (part_bytes s.result)

-- The other side's result, rewritten by the condition of the step.
unfoldable pub RewritesResult : List ℕ → ℕ → List ℕ → ℕ → List ℕ → List ℕ → ℕ → List ℕ → Type 0
RewritesResult area at others place arities slot put slot' =
    (s t : ListedStep) → EntryAt area at s → EntryAt others place t → InScope name_count arities 0 t.result → Rewritten t
    → slot' ≡ sets slot put (part_bytes (ren (class_in s.classes) t.result))

-- A result with y for x, where y is one of the names.
unfoldable pub ReceivesResult : List ℕ → ℕ → List ℕ → ℕ → ℕ → List ℕ → ℕ → List ℕ → Type 0
ReceivesResult area at arities x y slot at' slot' =
    (s : ListedStep) → EntryAt area at s → InScope name_count arities 0 s.result → y < name_count
    → slot' ≡ sets slot at' (part_bytes (ren (put x y) s.result))
