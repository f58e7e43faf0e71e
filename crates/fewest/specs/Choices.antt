-- The pairs that may be held apart besides, the choices among them in their order, and the apart list that a choice makes: document 02, request
-- 2026-06.
use Rattle.std.specs.Prelude.{Bool, ◌&&◌, not, List, [], ◌∷◌, ◌++◌, map, ◌⊎◌, ◌≡◌, ℕ, zero, suc, ◌<◌, length}
use Prim.Native.Nat.{Ordering}
use Rattle.calculus.specs.Cond.{Pairs}
use Rattle.calculus.specs.Distinction.{among, keep}
use Rattle.terms.specs.Operations.{holds_apart}
use Rattle.terms.specs.Question.{Question, pair_bytes}
use Rattle.steps.specs.Listing.{order}
use Rattle.field.specs.Situation.{all_pairs}

-- a and b are two of the given names, and not apart already
unfoldable pub may_choose : List ℕ → Pairs → ℕ → ℕ → Bool
may_choose names apart a b = among names a && among names b && not (holds_apart apart a b)

unfoldable pub candidate_pairs : ℕ → List ℕ → Pairs → Pairs
candidate_pairs count names apart = keep (may_choose names apart) (all_pairs count)

-- c is a choice of some of the pairs, in their order
pub data Choice : Pairs → Pairs → Type 0 where
  empty : Choice [] []
  take_it : {p : ℕ × ℕ} {c ps : Pairs} → Choice c ps → Choice (p ∷ c) (p ∷ ps)
  leave_it : {p : ℕ × ℕ} {c ps : Pairs} → Choice c ps → Choice c (p ∷ ps)

-- fewer pairs, or as many and first in byte order
unfoldable pub Earlier : Pairs → Pairs → Type 0
Earlier c d = (length c < length d) ⊎ ((length c ≡ length d) × (order (pair_bytes c) (pair_bytes d) ≡ Ordering.lt))

-- the choices of k of the pairs ps, in ascending order
unfoldable pub choices : Pairs → ℕ → List Pairs
choices ps zero = [] ∷ []
choices [] (suc k) = []
choices (p ∷ ps) (suc k) = map (p ∷◌) (choices ps k) ++ choices ps (suc k)

-- those of at least k pairs and of n more sizes, the smaller ones first
unfoldable pub choices_from : Pairs → ℕ → ℕ → List Pairs
choices_from ps k zero = choices ps k
choices_from ps k (suc n) = choices ps k ++ choices_from ps (suc k) n

unfoldable pub all_choices : Pairs → List Pairs
all_choices ps = choices_from ps 0 (length ps)

-- a list of pairs in the same order, without repeats
unfoldable pub in_order : ℕ → Pairs → Pairs
in_order count D = keep (holds_apart D) (all_pairs count)

-- the apart list enlarged by a choice
unfoldable pub enlarged : ℕ → Pairs → Pairs → Pairs
enlarged count apart choice = in_order count (apart ++ choice)

-- the question with another apart list
unfoldable pub under_list : Question → Pairs → Question
under_list q D = record { arities = q.arities; bodies = q.bodies; first = q.first; second = q.second; apart = D }
