-- The test of request 2026-01's limit says what its definition does, also where bodies have unprefixed calls: `past_calls_exact`. Every call has as many
-- names as its definition, and a definition at most eight (check 5). Assumes nothing.
use borrow.Author.Tests.{eq-eqb}
use mathlib.Core.Bool.{Bool, true, false, cond, ◌||◌}
use mathlib.Core.List.{List, [], ◌∷◌, ◌++◌}
use mathlib.Core.Logic.{◌⊎◌, inl, inr, ◌↔◌}
use mathlib.Core.Path.{◌≡◌, refl, sym, ◌∙◌, ap}
use native.Mathlib.Omega.{arith}
use Prim.Native.Nat.{ℕ, zero, suc, ◌≤◌}
use lib.Dec.{eqb, leb, ltb}
use lib.ListN.{length, length-map}
use Rattle.calculus.specs.Cond.{Cond, join, cls, above, matches_to, matches_below, canonical}
use Rattle.calculus.specs.Definitions.{Defs, opened}
use Rattle.calculus.specs.Term.{Term, nil, tau, inp, out, bout, mat, sum, par, res, call}
use Rattle.calls.specs.ReachLimit.{ManyCalls, PastCalls}
use Rattle.calls.specs.ReachSearch.{Place, place_of, same_names, same_pairs, same_call, same_place, is_known, is_called, differing, Search, many, spent, found, reach_term, reach_from, places_of}
use Rattle.calls.proofs.Theorems.{many_iff_past}
use Rattle.steps.specs.CallLimit.{is_many, past_calls}
use Rattle.steps.specs.Limits.{most_reached, deepest_calls}
use Rattle.steps.specs.Raw.{search_of}
use Rattle.steps.proofs.Calls.{EachCall, each-call-ren}

-- Searches that open the calls of a term alike find the same in it.
module _ (C₀ : ℕ → List ℕ → Type 0) (one two : ℕ → List ℕ → Cond → List Place → Search)
    (alike : (k : ℕ) (xs : List ℕ) → C₀ k xs → (C : Cond) (K : List Place) → one k xs C K ≡ two k xs C K) where
  term_alike : (P : Term) → EachCall C₀ P → (C : Cond) (K : List Place) → reach_term one P C K ≡ reach_term two P C K
  unfolding reach_term
  term_alike nil g C K = refl
  term_alike (tau P) g C K = refl
  term_alike (inp a P) g C K = refl
  term_alike (out a b P) g C K = refl
  term_alike (bout a P) g C K = refl
  term_alike (mat a b P) g C K = term_alike P g (C ++ ((a, b) ∷ [])) K
  term_alike (sum P Q) g C K =
      ap {B = Search} (λ (r : Search). elim r [ many ↦ many | spent ↦ spent | found K' ↦ reach_term one Q C K' ]) (term_alike P g.0 C K)
      ∙ go (reach_term two P C K) (term_alike Q g.1 C)
    where
      go : (r : Search) → ((K' : List Place) → reach_term one Q C K' ≡ reach_term two Q C K')
          → ◌≡◌ {A = Search} (elim r [ many ↦ many | spent ↦ spent | found K' ↦ reach_term one Q C K' ])
          (elim r [ many ↦ many | spent ↦ spent | found K' ↦ reach_term two Q C K' ])
      go many h = refl
      go spent h = refl
      go (found K') h = h K'
  term_alike (par P Q) g C K = refl
  term_alike (res P) g C K = refl
  term_alike (call k xs) g C K = alike k xs g C K

module _ (Δ : Defs) where
  -- the call has as many names as its definition
  abbrev pub Named : ℕ → List ℕ → Type 0
  Named k xs = length xs ≡ Δ.arity k

  module _ (bodies : (k : ℕ) → EachCall Named (Δ.body k)) (few : (k : ℕ) → Δ.arity k ≤ 8) where
    opened-named : (k : ℕ) (xs : List ℕ) → EachCall Named (opened xs (Δ.body k))
    opened-named k xs = each-call-ren Named (λ l ys σ e. length-map ys σ ∙ e) (Δ.body k) _ (bodies k)

    -- then the number of names need not be tested when a call is opened
    opens_alike : (limit n k : ℕ) (xs : List ℕ) → Named k xs → (C : Cond) (K : List Place)
        → reach_from (λ l ys. eqb (length ys) (Δ.arity l)) Δ.body limit n k xs C K ≡ reach_from (λ l ys. true) Δ.body limit n k xs C K
    unfolding reach_from
    opens_alike limit zero k xs e C K = refl
    opens_alike limit (suc n) k xs e C K =
        ap (λ b. rest (cond b (reach_term one (opened xs (Δ.body k)) C K') (found K'))) (eq-eqb (length xs) (Δ.arity k) e)
        ∙ ap rest (term_alike Named one two (opens_alike limit n) (opened xs (Δ.body k)) (opened-named k xs) C K')
      where
        one : ℕ → List ℕ → Cond → List Place → Search
        one = reach_from (λ l ys. eqb (length ys) (Δ.arity l)) Δ.body limit n

        two : ℕ → List ℕ → Cond → List Place → Search
        two = reach_from (λ l ys. true) Δ.body limit n

        K' : List Place
        K' = place_of C k xs ∷ K

        rest : Search → Search
        rest r = cond (is_known (place_of C k xs) K) (found K) (cond (leb (length (differing K')) limit) r many)

    search_is : (k : ℕ) (xs : List ℕ) → Named k xs → places_of Δ most_reached deepest_calls k xs ≡ search_of Δ.body k xs
    unfolding places_of
    search_is k xs e = opens_alike most_reached deepest_calls k xs e [] []

    many_is : (r : Search) → is_many r ≡ true → r ≡ many
    unfolding is_many
    many_is many h = refl
    many_is spent h = let z : ◌≡◌ {A = ℕ} 0 1 = cc in absurd (omega arith)
    many_is (found K) h = let z : ◌≡◌ {A = ℕ} 0 1 = cc in absurd (omega arith)

    call_exact : (k : ℕ) (xs : List ℕ) → Named k xs → (is_many (search_of Δ.body k xs) ≡ true) ↔ ManyCalls Δ most_reached k xs
    unfolding is_many
    call_exact k xs e =
        let w = few k in
        let i = many_iff_past Δ most_reached deepest_calls k xs (omega (arith, e)) in (
          λ h. i.0 (search_is k xs e ∙ many_is (search_of Δ.body k xs) h),
          λ h. ap is_many (sym (search_is k xs e) ∙ i.1 h),
        )

    either_true : (a b : Bool) → (a || b) ≡ true → (a ≡ true) ⊎ (b ≡ true)
    either_true true b h = inl refl
    either_true false b h = inr h

    true_or : (a b : Bool) → (a ≡ true) ⊎ (b ≡ true) → (a || b) ≡ true
    true_or true b h = refl
    true_or false b (inl e) = let z : ◌≡◌ {A = ℕ} 0 1 = cc in absurd (omega arith)
    true_or false b (inr e) = e

    both_exact : (a b : Bool) {A B : Type 0} → (a ≡ true) ↔ A → (b ≡ true) ↔ B → ((a || b) ≡ true) ↔ (A ⊎ B)
    both_exact a b {A} {B} f g = (λ h. to (either_true a b h), λ s. true_or a b (from s))
      where
        to : (a ≡ true) ⊎ (b ≡ true) → A ⊎ B
        to (inl e) = inl (f.0 e)
        to (inr e) = inr (g.0 e)

        from : A ⊎ B → (a ≡ true) ⊎ (b ≡ true)
        from (inl x) = inl (f.1 x)
        from (inr y) = inr (g.1 y)

    none : {A : Type 0} → false ≡ true → A
    none e = let z : ◌≡◌ {A = ℕ} 0 1 = cc in absurd (omega arith)

    pub past_calls_exact : (P : Term) → EachCall Named P → (past_calls Δ.body P ≡ true) ↔ PastCalls Δ most_reached P
    unfolding past_calls
    past_calls_exact nil g = (λ e. none e, λ h. absurd h)
    past_calls_exact (tau P) g = (λ e. none e, λ h. absurd h)
    past_calls_exact (inp a P) g = (λ e. none e, λ h. absurd h)
    past_calls_exact (out a b P) g = (λ e. none e, λ h. absurd h)
    past_calls_exact (bout a P) g = (λ e. none e, λ h. absurd h)
    past_calls_exact (mat a b P) g = past_calls_exact P g
    past_calls_exact (sum P Q) g = both_exact (past_calls Δ.body P) (past_calls Δ.body Q) (past_calls_exact P g.0) (past_calls_exact Q g.1)
    past_calls_exact (par P Q) g = both_exact (past_calls Δ.body P) (past_calls Δ.body Q) (past_calls_exact P g.0) (past_calls_exact Q g.1)
    past_calls_exact (res P) g = past_calls_exact P g
    past_calls_exact (call k xs) g = call_exact k xs g

-- Definitions that each call the next, as far as the number given: from 0 on, 64 calls keep within the limit and 65 do not; two calls are not added up,
-- a match does not hold a call back, and a prefix does.
abbrev chain : ℕ → ℕ → Term
chain n k = cond (ltb k n) (call (suc k) []) nil

abbrev tests : List Bool
tests =
    past_calls (chain 63) (call 0 [])
    ∷ past_calls (chain 64) (call 0 [])
    ∷ past_calls (chain 63) (sum (call 0 []) (call 100 []))
    ∷ past_calls (chain 64) (res (par nil (mat 0 1 (call 0 []))))
    ∷ past_calls (chain 64) (tau (call 0 []))
    ∷ []

pub chains : tests ≡ false ∷ true ∷ false ∷ true ∷ false ∷ []
unfolding past_calls is_many reach_from reach_term is_known is_called differing same_place same_call same_pairs same_names canonical above matches_to matches_below cls join
chains = refl
