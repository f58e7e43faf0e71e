-- The search for the calls that opening a call reaches (document 02, request 2026-01), each with the condition under which it is reached: a term
-- and the body of a call that stands unprefixed in it are walked by turns. The calls that may still be opened fall, and then the term.
use Rattle.std.specs.Prelude.{Bool, true, false, cond, ◌&&◌, ◌||◌, List, [], ◌∷◌, ◌++◌, ℕ, zero, suc, eqb, leb, length}
use Rattle.calculus.specs.Cond.{Cond, Pairs, canonical}
use Rattle.calculus.specs.Definitions.{Defs, opened}
use Rattle.calculus.specs.Term.{Term, nil, tau, inp, out, bout, mat, sum, par, res, call}

-- A call, and the condition under which it is reached: the matches on the way. One call on two ways whose matches merge other names has two places,
-- since Table 4.1 gives its steps under either condition.
pub record Place : Type 0 where
  pub condition : Cond
  pub definition : ℕ
  pub names : List ℕ

-- equal lists of names
unfoldable pub same_names : List ℕ → List ℕ → Bool
same_names [] [] = true
same_names [] (y ∷ ys) = false
same_names (x ∷ xs) [] = false
same_names (x ∷ xs) (y ∷ ys) = eqb x y && same_names xs ys

-- equal conditions in canonical form
unfoldable pub same_pairs : Pairs → Pairs → Bool
same_pairs [] [] = true
same_pairs [] (q ∷ E) = false
same_pairs (p ∷ D) [] = false
same_pairs (p ∷ D) (q ∷ E) = (eqb p.0 q.0 && eqb p.1 q.1) && same_pairs D E

-- A call reached beneath the matches C. Equivalent conditions have one form (Definition 11), so that the places of a call are finitely many.
abbrev pub place_of : Cond → ℕ → List ℕ → Place
place_of C k xs = record { condition = canonical C; definition = k; names = xs }

-- equal in definition and names: what the limit counts once
unfoldable pub same_call : Place → Place → Bool
same_call p q = eqb p.definition q.definition && same_names p.names q.names

-- equal in the condition too
unfoldable pub same_place : Place → Place → Bool
same_place p q = same_call p q && same_pairs p.condition q.condition

-- the place is in the list
unfoldable pub is_known : Place → List Place → Bool
is_known p [] = false
is_known p (q ∷ K) = same_place p q || is_known p K

-- its call is, under whatever condition
unfoldable pub is_called : Place → List Place → Bool
is_called p [] = false
is_called p (q ∷ K) = same_call p q || is_called p K

-- one place of each call: those that differ in definition or names
unfoldable pub differing : List Place → List Place
differing [] = []
differing (p ∷ K) = cond (is_called p K) (differing K) (p ∷ differing K)

-- what a search answers
pub data Search : Type 0 where
  -- more calls than the limit allows
  many : Search
  -- no more calls may be opened one within the other; never the case with enough of them (proofs/Theorems: never-spent)
  spent : Search
  -- the places, the last one found first
  found : List Place → Search

-- The places that the unprefixed calls of a term reach, beneath the matches C, beside those known; given the same of a call. A match is gathered,
-- whether or not it can hold; a prefix ends the search, and so do a restriction and a parallel, beneath which a body has no unprefixed call.
module _ (opening : ℕ → List ℕ → Cond → List Place → Search) where
  unfoldable pub reach_term : Term → Cond → List Place → Search
  reach_term nil C K = found K
  reach_term (tau P) C K = found K
  reach_term (inp a P) C K = found K
  reach_term (out a b P) C K = found K
  reach_term (bout a P) C K = found K
  reach_term (mat a b P) C K = reach_term P (C ++ ((a, b) ∷ [])) K
  reach_term (sum P Q) C K = elim (reach_term P C K) [ many ↦ many | spent ↦ spent | found K' ↦ reach_term Q C K' ]
  reach_term (par P Q) C K = found K
  reach_term (res P) C K = found K
  reach_term (call k xs) C K = opening k xs C K

-- The places that a call reaches: one that is not known is opened, if it may be, while those that differ keep within the limit.
module _ (opens : ℕ → List ℕ → Bool) (body : ℕ → Term) (limit : ℕ) where
  unfoldable pub reach_from : ℕ → ℕ → List ℕ → Cond → List Place → Search
  reach_from zero k xs C K = cond (is_known (place_of C k xs) K) (found K) spent
  reach_from (suc n) k xs C K =
      cond (is_known (place_of C k xs) K) (found K)
      (cond (leb (length (differing (place_of C k xs ∷ K))) limit)
      (cond (opens k xs) (reach_term (reach_from n) (opened xs (body k)) C (place_of C k xs ∷ K)) (found (place_of C k xs ∷ K)))
      many)

module _ (Δ : Defs) (limit : ℕ) where
  -- by rule [Con] a call with another number of names than its definition has opens nothing
  abbrev pub reach_call : ℕ → ℕ → List ℕ → Cond → List Place → Search
  reach_call = reach_from (λ k xs. eqb (length xs) (Δ.arity k)) Δ.body limit

  -- the places of a call, with n calls to open one within the other
  unfoldable pub places_of : ℕ → ℕ → List ℕ → Search
  places_of n k xs = reach_call n k xs [] []

-- the call of a place
abbrev pub call_of : Place → ℕ × List ℕ
call_of p = (p.definition, p.names)
