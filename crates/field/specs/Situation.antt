-- Situations: document 01, "The field and the verdict". Two parts and those apart pairs of which each name is free in at least one of the two.
use Rattle.std.specs.Prelude.{Bool, true, false, cond, ◌&&◌, List, [], ◌∷◌, ◌++◌, map, ℕ, zero, suc, eqb, ◌≡◌}
use Rattle.calculus.specs.Cond.{Pairs}
use Rattle.calculus.specs.Distinction.{among, keep}
use Rattle.calculus.specs.Free.{fn}
use Rattle.calculus.specs.Term.{Term}
use Rattle.terms.specs.Encoding.{encode}
use Rattle.terms.specs.Limits.{name_count}
use Rattle.terms.specs.Operations.{holds_apart}
use Rattle.terms.specs.Question.{Question, pair_bytes}
use Rattle.steps.specs.Listed.{names_from}
use Rattle.steps.specs.Forms.{result_form}
use Rattle.calculus.specs.Distinction.{Irr}
use Rattle.terms.specs.Encoding.{InScope}

-- "Situation" is document 01's word.
pub record Situation : Type 0 where
  pub first : Term
  pub second : Term
  pub apart : Pairs

-- the names free in at least one of two parts, ascending, of those from n on, k of them
unfoldable pub free_from : List ℕ → ℕ → ℕ → List ℕ
free_from F n zero = []
free_from F n (suc k) = cond (among F n) (n ∷ free_from F (suc n) k) (free_from F (suc n) k)

unfoldable pub free_in : ℕ → Term → Term → List ℕ
free_in names P Q = free_from (fn P ++ fn Q) 0 names

-- every pair of a list's members, the earlier first
unfoldable pub pairs_of : List ℕ → Pairs
pairs_of [] = []
pairs_of (a ∷ bs) = map (λ b. (a, b)) bs ++ pairs_of bs

-- every pair of so many names, ascending, its smaller name first: 0-1, 0-2 and so on
unfoldable pub all_pairs : ℕ → Pairs
all_pairs names = pairs_of (names_from 0 names)

-- Two parts under the pairs D. The pairs stand in order, each once and its smaller name first, so that equal situations are equal.
unfoldable pub situation : ℕ → Term → Term → Pairs → Situation
situation names P Q D = record { first = P; second = Q; apart = keep (holds_apart D) (pairs_of (free_in names P Q)) }

-- The start: the two parts, in the form that results have, under the apart list, which plays no part where all names differ.
abbrev pub start_with : ℕ → (Term → Term) → Bool → Question → Situation
start_with names form differ q = situation names (form q.first) (form q.second) (cond differ [] q.apart)

unfoldable pub start_in : (Term → Term) → Bool → Question → Situation
start_in form differ q = start_with name_count form differ q

unfoldable pub start_of : Bool → Question → Situation
unfolding start_in
start_of differ q = start_in result_form differ q

-- the smallest name that is not in F, of those from n on, k of them; the one behind them if all are in F
unfoldable pub missing : List ℕ → ℕ → ℕ → ℕ
missing F n zero = n
missing F n (suc k) = cond (among F n) (missing F (suc n) k) n

-- the new name: the smallest free in neither part
unfoldable pub new_name : ℕ → Term → Term → ℕ
new_name names P Q = missing (fn P ++ fn Q) 0 names

-- whether two strings of bytes are the same, and two situations
unfoldable pub same_bytes : List ℕ → List ℕ → Bool
same_bytes [] [] = true
same_bytes [] (y ∷ ys) = false
same_bytes (x ∷ xs) [] = false
same_bytes (x ∷ xs) (y ∷ ys) = eqb x y && same_bytes xs ys

unfoldable pub same_situation : Situation → Situation → Bool
same_situation s t =
    same_bytes (encode 0 s.first) (encode 0 t.first) && same_bytes (encode 0 s.second) (encode 0 t.second)
    && same_bytes (pair_bytes s.apart) (pair_bytes t.apart)

-- Proper situations: those that the field of an accepted question holds.
pub record Proper (names : ℕ) (arities : List ℕ) (s : Situation) : Type 0 where
  pub first : InScope names arities 0 s.first
  pub second : InScope names arities 0 s.second
  pub distinction : Irr s.apart
  -- the apart pairs stand as `situation` writes them
  pub canonical : s ≡ situation names s.first s.second s.apart
