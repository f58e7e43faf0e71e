-- The first choice that gives "same": document 02, request 2026-06.
use Rattle.std.specs.Prelude.{Bool, true, false, cond, List, [], ◌∷◌, ℕ}
use Rattle.calculus.specs.Cond.{Pairs}
use Rattle.terms.specs.Limits.{name_count}
use Rattle.terms.specs.Question.{Question}
use Rattle.verdict.specs.Verdict.{Verdict, unsettled, same, different, verdict_of}
use Rattle.fewest.specs.Choices.{candidate_pairs, all_choices, enlarged, under_list}

-- Some choice is unsettled; every choice is different; or a choice wins.
pub data Fewest : Type 0 where
  undecided : Fewest
  none : Fewest
  chosen : Pairs → Fewest

unfoldable pub is_unsettled : Verdict → Bool
is_unsettled unsettled = true
is_unsettled (same n) = false
is_unsettled (different n) = false

unfoldable pub is_same : Verdict → Bool
is_same unsettled = false
is_same (same n) = true
is_same (different n) = false

-- the first that passes
unfoldable pub first_of : (Pairs → Bool) → List Pairs → Fewest
first_of f [] = none
first_of f (c ∷ cs) = cond (f c) (chosen c) (first_of f cs)

unfoldable pub some : (Pairs → Bool) → List Pairs → Bool
some f [] = false
some f (c ∷ cs) = cond (f c) true (some f cs)

-- If any choice is unsettled the answer is; else the first choice that gives "same", or none.
unfoldable pub fewest_by : (Pairs → Verdict) → List Pairs → Fewest
fewest_by verdict cs = cond (some (λ c. is_unsettled (verdict c)) cs) undecided (first_of (λ c. is_same (verdict c)) cs)

-- the verdict on the question under its apart list enlarged by a choice
unfoldable pub verdict_under : Question → ℕ → Pairs → Verdict
verdict_under q capacity choice = verdict_of (under_list q (enlarged name_count q.apart choice)) capacity

unfoldable pub fewest_of : Question → ℕ → List ℕ → Fewest
fewest_of q capacity names = fewest_by (verdict_under q capacity) (all_choices (candidate_pairs name_count names q.apart))
