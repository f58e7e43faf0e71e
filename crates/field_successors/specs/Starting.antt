-- The start of an accepted question, written as a key: what the code promises of its parts and of its apart list.
use Rattle.std.specs.Prelude.{◌≡◌, Bool, cond, List, [], ◌++◌, ℕ, ◌+◌, ◌≤◌, length, replicate}
use Rattle.calculus.specs.Cond.{Pairs}
use Rattle.calculus.specs.Term.{Term}
use Rattle.calculus.specs.Tidy.{tidy}
use Rattle.terms.specs.Encoding.{encode, InScope}
use Rattle.terms.specs.Limits.{name_count, longest_term}
use Rattle.terms.specs.Question.{pair_bytes}
use Rattle.field_pairs.specs.Slot.{part_bytes, flags_of}

-- A part that fits takes the place of zeros, tidied (request 2026-04), its length first.
unfoldable pub PutsPart : List ℕ → List ℕ → List ℕ → ℕ → List ℕ → Type 0
PutsPart part arities key put key' =
    (P : Term) (front rest : List ℕ) → InScope name_count arities 0 P → part ≡ encode 0 P → length (encode 0 P) ≤ longest_term → length front ≡ put
    → key ≡ front ++ (replicate (1 + longest_term) 0 ++ rest) → key' ≡ front ++ (part_bytes (tidy P) ++ rest)

-- The pairs of an apart list.
unfoldable pub MarksList : List ℕ → List ℕ → List ℕ → Type 0
MarksList list flags flags' = (D : Pairs) → list ≡ pair_bytes D → flags ≡ flags_of [] → flags' ≡ flags_of D

-- The pairs of the start.
unfoldable pub StartPairs : List ℕ → Bool → List ℕ → Type 0
StartPairs list differ flags = (D : Pairs) → list ≡ pair_bytes D → flags ≡ flags_of (cond differ [] D)
