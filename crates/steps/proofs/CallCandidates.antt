-- The candidates of a call, as far as code relies on them: all that is used of the rule [Con] where one call is opened. A call whose body is guarded
-- (check 11) reaches itself alone, and so has the body's own candidates, those with no call opened. Assumes nothing.
use mathlib.Core.Bool.{true}
use mathlib.Core.List.{List, [], ◌∷◌, map, append-nil, map-id}
use mathlib.Core.Path.{◌≡◌, refl, ◌∙◌, ap}
use native.Mathlib.Omega.{arith}
use Prim.Native.Nat.{ℕ, zero, suc, ◌≤◌}
use Rattle.calculus.specs.Cond.{Cond, above, matches_below, canonical}
use Rattle.calculus.specs.Definitions.{opened}
use Rattle.calculus.specs.Lists.{All}
use Rattle.calculus.specs.Term.{Term, nil, tau, inp, out, bout, mat, sum, par, res, call}
use Rattle.calculus.proofs.Membership.{all-++, all_map}
use Rattle.calls.specs.Reach.{Guarded}
use Rattle.calls.specs.ReachSearch.{Place, place_of}
use Rattle.calls.proofs.Theorems.{guarded_from}
use Rattle.terms.specs.Grammar.{guarded}
use Rattle.steps.specs.Limits.{most_reached}
use Rattle.steps.specs.Raw.{Candidate, matching, beneath, of_places, places_in, places_of_call, visible_of, silent_of, visible_calls, silent_calls, visible, silent}
use Rattle.steps.proofs.Calls.{EachCall}
use Rattle.steps.proofs.QuestionDefinitions.{guarded-each}

-- beneath no match a candidate is as it is
beneath-none : beneath (canonical []) ≡ (λ c. c)
unfolding beneath canonical above matches_below
beneath-none = refl

-- the candidates of a call's only place
pub alone : (own : Term → List Candidate) (body : ℕ → Term) (k : ℕ) (xs : List ℕ) → of_places own body (place_of [] k xs ∷ []) ≡ own (opened xs (body k))
unfolding of_places
alone own body k xs = append-nil _ ∙ ap (λ f. map f (own (opened xs (body k)))) beneath-none ∙ map-id (own (opened xs (body k)))

-- Where no call stands unprefixed the term is guarded.
pub each-guarded : (P : Term) → EachCall (λ k xs. ⊥) P → Guarded P
each-guarded (call _ _) g = elim g [ ]
each-guarded nil g = tt
each-guarded (tau P) g = tt
each-guarded (inp a P) g = tt
each-guarded (out a b P) g = tt
each-guarded (bout a P) g = tt
each-guarded (mat a b P) g = each-guarded P g
each-guarded (sum P Q) g = (each-guarded P g.0, each-guarded Q g.1)
each-guarded (par P Q) g = (each-guarded P g.0, each-guarded Q g.1)
each-guarded (res P) g = each-guarded P g

module _ (body : ℕ → Term) where
  module _ (n k : ℕ) (xs : List ℕ) (g : Guarded (body k)) where
    only_place : places_of_call body k xs ≡ place_of [] k xs ∷ []
    unfolding places_of_call places_in
    only_place = ap places_in (guarded_from (λ l ys. true) body most_reached 576 k xs (omega arith) g)

    pub visible-alone : visible_calls body (suc n) k xs ≡ visible body 0 (opened xs (body k))
    unfolding visible_calls visible
    visible-alone = ap (of_places (visible_of (λ l ys. [])) body) only_place ∙ alone (visible_of (λ l ys. [])) body k xs

    pub silent-alone : silent_calls body (suc n) k xs ≡ silent body 0 (opened xs (body k))
    unfolding visible_calls silent_calls silent
    silent-alone = ap (of_places (silent_of (λ l ys. []) (λ l ys. [])) body) only_place ∙ alone (silent_of (λ l ys. []) (λ l ys. [])) body k xs

  pub visible-opened : (k : ℕ) (xs : List ℕ) → guarded (body k) ≡ true → visible_calls body 1 k xs ≡ visible body 0 (opened xs (body k))
  visible-opened k xs g = visible-alone 0 k xs (each-guarded (body k) (guarded-each (λ l ys. ⊥) (body k) g))

  pub silent-opened : (k : ℕ) (xs : List ℕ) → guarded (body k) ≡ true → silent_calls body 1 k xs ≡ silent body 0 (opened xs (body k))
  silent-opened k xs g = silent-alone 0 k xs (each-guarded (body k) (guarded-each (λ l ys. ⊥) (body k) g))

  -- What holds of the own candidates of every body, in whatever names, and stays so beneath a match, holds of the candidates of a call.
  module _ (A : Candidate → Type 0) (matched : (a b : ℕ) (c : Candidate) → A c → A (matching a b c)) where
    all-beneath : (C : Cond) (c : Candidate) → A c → A (beneath C c)
    unfolding beneath
    all-beneath [] c a = a
    all-beneath (p ∷ C) c a = matched p.0 p.1 (beneath C c) (all-beneath C c a)

    all_places : (own : Term → List Candidate) → ((k : ℕ) (xs : List ℕ) → All A (own (opened xs (body k)))) → (K : List Place) → All A (of_places own body K)
    unfolding of_places
    all_places own h [] = tt
    all_places own h (p ∷ K) =
        let cs : List Candidate = own (opened p.names (body p.definition)) in
        all-++ A (map (beneath p.condition) cs) (of_places own body K)
        (all_map (beneath p.condition) A A cs (all-beneath p.condition) (h p.definition p.names)) (all_places own h K)

    pub visible-each : ((k : ℕ) (xs : List ℕ) → All A (visible body 0 (opened xs (body k)))) → (n k : ℕ) (xs : List ℕ) → n ≤ 1
        → All A (visible_calls body n k xs)
    unfolding visible_calls visible
    visible-each own zero k xs once = tt
    visible-each own (suc n) k xs once = all_places (visible_of (λ l ys. [])) own (places_of_call body k xs)

    pub silent-each : ((k : ℕ) (xs : List ℕ) → All A (silent body 0 (opened xs (body k)))) → (n k : ℕ) (xs : List ℕ) → n ≤ 1
        → All A (silent_calls body n k xs)
    unfolding visible_calls silent_calls silent
    silent-each own zero k xs once = tt
    silent-each own (suc n) k xs once = all_places (silent_of (λ l ys. []) (λ l ys. [])) own (places_of_call body k xs)
