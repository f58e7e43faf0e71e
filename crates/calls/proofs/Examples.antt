-- Small facts that show what the definitions of specs/ say (document 02, request 2026-01). The names a, b are 0, 1; in a body of two parameters the
-- first is index 1 and the last index 0. Assumes nothing.
use mathlib.Core.Bool.{Bool, true, false, cond, ◌&&◌}
use mathlib.Core.List.{List, [], ◌∷◌}
use mathlib.Core.Logic.{inl, inr}
use mathlib.Core.Path.{◌≡◌, refl}
use native.Mathlib.Omega.{arith}
use borrow.Author.Tests.{ltb-true}
use Prim.Native.Nat.{ℕ, suc, ◌<◌}
use lib.Dec.{ltb}
use lib.ListN.{length}
use Rattle.calculus.specs.Cond.{join, cls, above, matches_to, matches_below, canonical}
use Rattle.calculus.specs.Definitions.{Defs}
use Rattle.calculus.specs.Free.{In, Free, fn, lower_l}
use Rattle.calculus.specs.Term.{Term, nil, tau, out, mat, sum, call}
use Rattle.calls.specs.ReachSearch.{same_names, same_pairs, same_call, same_place, is_known, is_called, differing, Search, many, spent, found, reach_term, reach_from, places_of}
use Rattle.calculus.proofs.FreeNames.{free→fn}
use Rattle.calculus.proofs.Selection.{and_cases}

-- Names below a number, for bodies that are closed.
all_below : ℕ → List ℕ → Bool
all_below a [] = true
all_below a (x ∷ xs) = ltb x a && all_below a xs

below : (a : ℕ) (xs : List ℕ) → all_below a xs ≡ true → (n : ℕ) → In n xs → n < a
unfolding all_below
below a [] e n x'' = elim x'' [ ]
below a (x ∷ xs) e n (inl h) = let l = ltb-true x a (and_cases (ltb x a) (all_below a xs) e).0 in omega arith
below a (x ∷ xs) e n (inr m) = below a xs (and_cases (ltb x a) (all_below a xs) e).1 n m

-- one definition, of so many parameters
abbrev pub alone : (a : ℕ) (P : Term) → ((n : ℕ) → Free n P → n < a) → Defs
alone a P c = record { arity = λ k. a; body = λ k. P; closed = λ k. c }

-- K⟨a,b⟩ = [a=b]K⟨a,b⟩ + āb.0
abbrev pub matched : Term
matched = sum (mat 1 0 (call 0 (1 ∷ 0 ∷ []))) (out 1 0 nil)

pub matched_closed : (n : ℕ) → Free n matched → n < 2
unfolding fn lower_l all_below
matched_closed n f = below 2 (fn matched) refl n (free→fn n matched f)

-- Its call has two places: itself, and itself under [b=a], so that both of its outputs are found.
pub two_places : places_of (alone 2 matched matched_closed) 64 577 0 (0 ∷ 1 ∷ [])
    ≡ found (record { condition = (1, 0) ∷ []; definition = 0; names = 0 ∷ 1 ∷ [] } ∷ record { condition = []; definition = 0; names = 0 ∷ 1 ∷ [] } ∷ [])
unfolding places_of reach_from reach_term is_known is_called differing same_place same_call same_pairs same_names canonical cls join above matches_to matches_below
two_places = refl

-- They are one call, so that the limit 1 is kept.
pub one_call : places_of (alone 2 matched matched_closed) 1 4 0 (0 ∷ 1 ∷ [])
    ≡ found (record { condition = (1, 0) ∷ []; definition = 0; names = 0 ∷ 1 ∷ [] } ∷ record { condition = []; definition = 0; names = 0 ∷ 1 ∷ [] } ∷ [])
unfolding places_of reach_from reach_term is_known is_called differing same_place same_call same_pairs same_names canonical cls join above matches_to matches_below
one_call = refl

-- K⟨a⟩ = K⟨a⟩
abbrev pub again : Term
again = call 0 (0 ∷ [])

pub again_closed : (n : ℕ) → Free n again → n < 1
unfolding fn lower_l all_below
again_closed n f = below 1 (fn again) refl n (free→fn n again f)

-- A call to itself has one place.
pub one_place : places_of (alone 1 again again_closed) 64 577 0 (0 ∷ [])
    ≡ found (record { condition = []; definition = 0; names = 0 ∷ [] } ∷ [])
unfolding places_of reach_from reach_term is_known is_called differing same_place same_call same_pairs same_names canonical cls join above matches_to matches_below
one_place = refl

-- K⟨a,b⟩ = K⟨b,a⟩ + āb.0
abbrev pub turned : Term
turned = sum (call 0 (0 ∷ 1 ∷ [])) (out 1 0 nil)

pub turned_closed : (n : ℕ) → Free n turned → n < 2
unfolding fn lower_l all_below
turned_closed n f = below 2 (fn turned) refl n (free→fn n turned f)

-- Its call reaches two calls that differ in names: the limit 2 is kept,
pub limit_kept : places_of (alone 2 turned turned_closed) 2 7 0 (0 ∷ 1 ∷ [])
    ≡ found (record { condition = []; definition = 0; names = 1 ∷ 0 ∷ [] } ∷ record { condition = []; definition = 0; names = 0 ∷ 1 ∷ [] } ∷ [])
unfolding places_of reach_from reach_term is_known is_called differing same_place same_call same_pairs same_names canonical cls join above matches_to matches_below
limit_kept = refl

-- and the limit 1 is passed.
pub limit_passed : places_of (alone 2 turned turned_closed) 1 4 0 (0 ∷ 1 ∷ [])
    ≡ many
unfolding places_of reach_from reach_term is_known is_called differing same_place same_call same_pairs same_names canonical cls join above matches_to matches_below
limit_passed = refl

-- With one name for both it reaches itself alone.
pub names-alike : places_of (alone 2 turned turned_closed) 1 4 0 (0 ∷ 0 ∷ [])
    ≡ found (record { condition = []; definition = 0; names = 0 ∷ 0 ∷ [] } ∷ [])
unfolding places_of reach_from reach_term is_known is_called differing same_place same_call same_pairs same_names canonical cls join above matches_to matches_below
names-alike = refl

-- Eight definitions of eight parameters, each of which calls itself with its parameters turned by one, and the next one; the last ends in P.
abbrev pub turning : Term → ℕ → Term
turning P k = sum (call k (6 ∷ 5 ∷ 4 ∷ 3 ∷ 2 ∷ 1 ∷ 0 ∷ 7 ∷ [])) (cond (ltb k 7) (call (suc k) (7 ∷ 6 ∷ 5 ∷ 4 ∷ 3 ∷ 2 ∷ 1 ∷ 0 ∷ [])) P)

abbrev pub eight : Term → ℕ → Term
eight P k = cond (ltb k 8) (turning P k) nil

abbrev pub parameters : ℕ → ℕ
parameters k = cond (ltb k 8) 8 0

pub eight_closed : (P : Term) → ((n : ℕ) → Free n P → ⊥) → (k n : ℕ) → Free n (eight P k) → n < parameters k
unfolding all_below
eight_closed P c k n f = go (ltb k 8) (ltb k 7) f
  where
    go : (b d : Bool) → Free n (cond b (sum (call k (6 ∷ 5 ∷ 4 ∷ 3 ∷ 2 ∷ 1 ∷ 0 ∷ 7 ∷ [])) (cond d (call (suc k) (7 ∷ 6 ∷ 5 ∷ 4 ∷ 3 ∷ 2 ∷ 1 ∷ 0 ∷ [])) P)) nil) → n < cond b 8 0
    go false d x' = elim x' [ ]
    go true d (inl h) = below 8 (6 ∷ 5 ∷ 4 ∷ 3 ∷ 2 ∷ 1 ∷ 0 ∷ 7 ∷ []) refl n h
    go true true (inr h) = below 8 (7 ∷ 6 ∷ 5 ∷ 4 ∷ 3 ∷ 2 ∷ 1 ∷ 0 ∷ []) refl n h
    go true false (inr h) = absurd (c n h)

abbrev pub rotations : (P : Term) → ((n : ℕ) → Free n P → ⊥) → Defs
rotations P c = record { arity = parameters; body = eight P; closed = eight_closed P c }

-- the number of places, or 0
abbrev pub how_many : Search → ℕ
how_many many = 0
how_many spent = 0
how_many (found K) = length K

-- The first call reaches eight turns of eight definitions: 64 are not more than 64.
pub sixty_four : how_many (places_of (rotations (tau nil) (λ n f. f)) 64 577 0 (0 ∷ 1 ∷ 2 ∷ 3 ∷ 4 ∷ 5 ∷ 6 ∷ 7 ∷ []))
    ≡ 64
unfolding places_of reach_from reach_term is_known is_called differing same_place same_call same_pairs same_names canonical cls join above matches_to matches_below
sixty_four = refl

-- One call more at the end, and the limit is passed.
pub none : (n : ℕ) → Free n (sum (call 8 []) (tau nil)) → ⊥
none n (inl h) = h
none n (inr h) = h

pub sixty_five : places_of (rotations (sum (call 8 []) (tau nil)) (λ n f. none n f)) 64 577 0 (0 ∷ 1 ∷ 2 ∷ 3 ∷ 4 ∷ 5 ∷ 6 ∷ 7 ∷ [])
    ≡ many
unfolding places_of reach_from reach_term is_known is_called differing same_place same_call same_pairs same_names canonical cls join above matches_to matches_below
sixty_five = refl
