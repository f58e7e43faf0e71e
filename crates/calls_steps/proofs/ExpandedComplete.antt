-- Every transition of a term whose calls have their places is among its candidates, up to an equivalent condition: the least set of Table 4.1 is
-- listed. Bodies may have unprefixed calls, not beneath a restriction. Assumes nothing.
use mathlib.Core.Bool.{Bool, true, false}
use mathlib.Core.List.{List, [], ◌∷◌, ◌++◌, map}
use mathlib.Core.Logic.{inl, inr}
use mathlib.Core.Path.{◌≡◌, refl, sym, ap, ap₂, subst}
use Prim.Native.Nat.{ℕ}
use Rattle.calculus.specs.Abstraction.{Act}
use Rattle.calculus.specs.Cond.{Cond}
use Rattle.calculus.specs.Definitions.{Defs, opened}
use Rattle.calculus.specs.Term.{Term, nil, tau, inp, out, bout, mat, sum, par, res, call, lift, ren}
use Rattle.calculus.proofs.Conditions.{~_refl, ~_sym, ~_trans}
use Rattle.calculus.proofs.PublishedSteps.{++-~}
use Rattle.calculus.proofs.Working.{Trans}
use Rattle.calculus.specs.Lists.{◌∈◌}
use Rattle.steps.specs.Raw.{Candidate, step, matching, visible_of, silent_of, visible_calls, silent_calls, visible, silent, beneath, of_places, places_in}
use Rattle.steps.proofs.Calls.{EachCall, Opens}
use Rattle.calculus.proofs.Membership.{∈-left, ∈_right, ∈-map}
use Rattle.steps.proofs.RawComplete.{Yielded, is_silent, candidates, raw_complete}
use Rattle.calls_steps.specs.Expanding.{visible_reached, silent_reached}
use Rattle.calls.specs.Reach.{Guarded, GuardedBelow, stripped}
use Rattle.calls.specs.ReachSearch.{Place, found, places_of}
use Rattle.steps.proofs.CompleteOver.{called_of, candidates_of, complete_over}
use Rattle.calls.proofs.ReachRenaming.{guarded-ren}
use Rattle.calls.proofs.ReachSearching.{Member, call-given}

-- Names do not matter to where calls stand.
pub below-ren : (P : Term) (σ : ℕ → ℕ) → GuardedBelow P → GuardedBelow (ren σ P)
below-ren nil σ g = tt
below-ren (tau P) σ g = tt
below-ren (inp a P) σ g = tt
below-ren (out a b P) σ g = tt
below-ren (bout a P) σ g = tt
below-ren (mat a b P) σ g = below-ren P σ g
below-ren (sum P Q) σ g = (below-ren P σ g.0, below-ren Q σ g.1)
below-ren (par P Q) σ g = (guarded-ren P σ g.0, guarded-ren Q σ g.1)
below-ren (res P) σ g = guarded-ren P (lift σ) g
below-ren (call k xs) σ g = tt

pub beneath-step : (C N : Cond) (α : Act) (R : Term) → beneath C (step N α R) ≡ step (C ++ N) α R
unfolding beneath matching
beneath-step [] N α R = refl
beneath-step (p ∷ C) N α R = ap (matching p.0 p.1) (beneath-step C N α R)

module _ (Δ : Defs) where
  guarded_opens : (P : Term) → Guarded P → Opens Δ 0 P
  guarded_opens (call _ _) g = elim g [ ]
  guarded_opens nil g = tt
  guarded_opens (tau P) g = tt
  guarded_opens (inp a P) g = tt
  guarded_opens (out a b P) g = tt
  guarded_opens (bout a P) g = tt
  guarded_opens (mat a b P) g = guarded_opens P g
  guarded_opens (sum P Q) g = (guarded_opens P g.0, guarded_opens Q g.1)
  guarded_opens (par P Q) g = (guarded_opens P g.0, guarded_opens Q g.1)
  guarded_opens (res P) g = guarded_opens P g

  pub stripped_opens : (P : Term) → GuardedBelow P → Opens Δ 0 (stripped P)
  unfolding stripped
  stripped_opens nil g = tt
  stripped_opens (tau P) g = tt
  stripped_opens (inp a P) g = tt
  stripped_opens (out a b P) g = tt
  stripped_opens (bout a P) g = tt
  stripped_opens (mat a b P) g = stripped_opens P g
  stripped_opens (sum P Q) g = (stripped_opens P g.0, stripped_opens Q g.1)
  stripped_opens (par P Q) g = (guarded_opens P g.0, guarded_opens Q g.1)
  stripped_opens (res P) g = guarded_opens P g
  stripped_opens (call k xs) g = tt

  -- with no call opened a call has no candidates, so that taking it away changes nothing
  pub visible-stripped : (P : Term) → visible Δ.body 0 (stripped P) ≡ visible Δ.body 0 P
  unfolding stripped visible visible_of visible_calls
  visible-stripped nil = refl
  visible-stripped (tau P) = refl
  visible-stripped (inp a P) = refl
  visible-stripped (out a b P) = refl
  visible-stripped (bout a P) = refl
  visible-stripped (mat a b P) = ap (map (matching a b)) (visible-stripped P)
  visible-stripped (sum P Q) = ap₂ ◌++◌ (visible-stripped P) (visible-stripped Q)
  visible-stripped (par P Q) = refl
  visible-stripped (res P) = refl
  visible-stripped (call k xs) = refl

  pub silent-stripped : (P : Term) → silent Δ.body 0 (stripped P) ≡ silent Δ.body 0 P
  unfolding stripped silent silent_of silent_calls visible_calls
  silent-stripped nil = refl
  silent-stripped (tau P) = refl
  silent-stripped (inp a P) = refl
  silent-stripped (out a b P) = refl
  silent-stripped (bout a P) = refl
  silent-stripped (mat a b P) = ap (map (matching a b)) (silent-stripped P)
  silent-stripped (sum P Q) = ap₂ ◌++◌ (silent-stripped P) (silent-stripped Q)
  silent-stripped (par P Q) = refl
  silent-stripped (res P) = refl
  silent-stripped (call k xs) = refl

  own_same : (s : Bool) (P : Term) → candidates Δ s 0 (stripped P) ≡ candidates Δ s 0 P
  own_same true P = silent-stripped P
  own_same false P = visible-stripped P

  in_places : (own : Term → List Candidate) (K : List Place) (p : Place) (c : Candidate) → Member p K
      → c ∈ own (opened p.names (Δ.body p.definition)) → beneath p.condition c ∈ of_places own Δ.body K
  unfolding of_places
  in_places own [] p c x'' m = elim x'' [ ]
  in_places own (q ∷ K) p c (inl e) m =
      ∈-left (beneath p.condition c) (map (beneath q.condition) (own (opened q.names (Δ.body q.definition)))) (of_places own Δ.body K)
      (subst (λ r. beneath p.condition c ∈ map (beneath r.condition) (own (opened r.names (Δ.body r.definition)))) e
      (∈-map (beneath p.condition) c (own (opened p.names (Δ.body p.definition))) m))
  in_places own (q ∷ K) p c (inr i) m =
      ∈_right (beneath p.condition c) (map (beneath q.condition) (own (opened q.names (Δ.body q.definition)))) (of_places own Δ.body K)
      (in_places own K p c i m)

  module _ (limit depth : ℕ) (bodies : (k : ℕ) → GuardedBelow (Δ.body k)) where
    -- the search finds the places of the call: the limit is not passed
    abbrev pub HasPlaces : ℕ → List ℕ → Type 0
    HasPlaces k xs = (K : List Place) × (places_of Δ limit depth k xs ≡ found K)

    reached_is : (s : Bool) (k : ℕ) (xs : List ℕ) (K : List Place) → places_of Δ limit depth k xs ≡ found K
        → called_of (visible_reached Δ limit depth) (silent_reached Δ limit depth) s k xs ≡ of_places (candidates Δ s 0) Δ.body K
    unfolding visible_reached silent_reached places_in
    reached_is true k xs K e = ap (λ r. of_places (silent Δ.body 0) Δ.body (places_in r)) e
    reached_is false k xs K e = ap (λ r. of_places (visible Δ.body 0) Δ.body (places_in r)) e

    call_complete : (k : ℕ) (xs : List ℕ) → HasPlaces k xs → (M : Cond) (α : Act) (R : Term) → Trans Δ (call k xs) M α R
        → Yielded (called_of (visible_reached Δ limit depth) (silent_reached Δ limit depth) (is_silent α) k xs) M α R
    call_complete k xs (K, e) M α R t =
        let g = call-given Δ limit depth k xs K e t in
        let p = g.place in
        let B : Term = opened p.names (Δ.body p.definition) in
        let y = raw_complete Δ 0 (stripped_opens B (below-ren (Δ.body p.definition) _ (bodies p.definition))) g.own.step in
        let C : Cond = p.condition ++ y.condition in
        record {
          condition = C;
          same = ~_trans M (p.condition ++ g.condition) C (~_sym (p.condition ++ g.condition) M g.same)
              (++-~ p.condition p.condition g.condition y.condition (~_refl p.condition) y.same);
          there = subst (λ l. step C α R ∈ l) (sym (reached_is (is_silent α) k xs K e))
              (subst (λ c. c ∈ of_places (candidates Δ (is_silent α) 0) Δ.body K) (beneath-step p.condition y.condition α R)
              (in_places (candidates Δ (is_silent α) 0) K p (step y.condition α R) g.member
              (subst (λ l. step y.condition α R ∈ l) (own_same (is_silent α) B) y.there)));
        }

    -- Every transition is listed.
    pub full_complete : {P : Term} {M : Cond} {α : Act} {R : Term} → EachCall HasPlaces P → Trans Δ P M α R
        → Yielded (candidates_of (visible_reached Δ limit depth) (silent_reached Δ limit depth) (is_silent α) P) M α R
    full_complete o t = complete_over (visible_reached Δ limit depth) (silent_reached Δ limit depth) Δ HasPlaces call_complete o t
