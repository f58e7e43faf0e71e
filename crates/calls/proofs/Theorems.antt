-- The theorems about what opening a call reaches (document 02, request 2026-01), each under the name by which other crates cite it: the steps of a
-- call are exactly the own steps of its places under their conditions, the search passes the limit exactly if the call does, it always answers, and a
-- call whose body is guarded has itself alone. Assumes nothing.
use mathlib.Core.List.{List, [], ◌∷◌, ◌++◌}
use mathlib.Core.Logic.{◌↔◌}
use mathlib.Core.Path.{◌≡◌, refl}
use Prim.Native.Nat.{ℕ, suc, ◌+◌, ◌*◌, ◌<◌, ◌≤◌}
use lib.Dec.{eqb}
use lib.ListN.{length}
use Rattle.calculus.specs.Abstraction.{Act}
use Rattle.calculus.specs.Cond.{Cond}
use Rattle.calculus.specs.Definitions.{Defs}
use Rattle.calculus.specs.Lists.{◌∈◌}
use Rattle.calculus.specs.Term.{Term, call}
use Rattle.calls.specs.Reach.{Guarded, Reached}
use Rattle.calls.specs.ReachLimit.{ManyCalls}
use Rattle.calls.specs.ReachSearch.{Place, place_of, Search, many, spent, found, places_of}
use Rattle.calculus.proofs.Conditions.{◌~◌}
use Rattle.calculus.proofs.Working.{Trans}
use Rattle.calls.proofs.Reaching.{Own, Sound, held}
use Rattle.calls.proofs.ReachSearching.{places_closed, places_sound, call-given, given-call}
use Rattle.calls.proofs.ReachLimits.{found_within, many-past}
use Rattle.calls.proofs.ReachEnds.{never_spent}
pub use Rattle.calls.proofs.ReachRenaming.{guarded_from}

module _ (Δ : Defs) where
  -- A step that one of the places gives: a step that the body of its call has of its own, under the place's condition and its own.
  pub record OfPlaces (K : List Place) (M : Cond) (α : Act) (R : Term) : Type 0 where
    pub place : Place
    pub member : place ∈ K
    pub condition : Cond
    pub own : Own Δ place.definition place.names condition α R
    pub same : (place.condition ++ condition) ~ M

  module _ (limit n k : ℕ) (xs : List ℕ) where
    module _ (K : List Place) (e : places_of Δ limit n k xs ≡ found K) where
      -- Every step of the call is one that its places give; and every one that they give is a step of the call, up to the form of the condition.
      pub steps_of_places : {M : Cond} {α : Act} {R : Term} → Trans Δ (call k xs) M α R → OfPlaces K M α R
      steps_of_places t =
          let g = call-given Δ limit n k xs K e t in
          record { place = g.place; member = g.member; condition = g.condition; own = g.own; same = g.same }

      pub places_to_steps : {M : Cond} {α : Act} {R : Term} → OfPlaces K M α R → (N : Cond) × Trans Δ (call k xs) N α R × (N ~ M)
      places_to_steps g =
          given-call Δ limit n k xs K e (record { place = g.place; member = g.member; condition = g.condition; own = g.own; same = g.same })

      -- The places are those of the calls that are reached, up to the form of the condition.
      pub reached_place : {l : ℕ} {ys : List ℕ} {C : Cond} → Reached Δ k xs C l ys
          → (E : Cond) × (record { condition = E; definition = l; names = ys } ∈ K) × (E ~ C)
      reached_place r = held Δ (λ p. p ∈ K) k xs (places_closed Δ limit n k xs K e) r

      pub place_reached : (p : Place) → p ∈ K → (C : Cond) × Reached Δ k xs C p.definition p.names × (p.condition ~ C)
      unfolding Sound
      place_reached p m = places_sound Δ limit n k xs K e p m

    -- With so many calls to open one within the other, the search is never spent, and answers "many" exactly if the limit is passed.
    module _ (enough : limit * (1 + length xs) < n) where
      pub never_runs_out : places_of Δ limit n k xs ≡ spent → ⊥
      never_runs_out e = never_spent Δ limit n k xs enough e

      pub many_iff_past : (places_of Δ limit n k xs ≡ many) ↔ ManyCalls Δ limit k xs
      many_iff_past = (many-past Δ limit n k xs, λ h. go h (places_of Δ limit n k xs) refl)
        where
          go : ManyCalls Δ limit k xs → (r : Search) → places_of Δ limit n k xs ≡ r → places_of Δ limit n k xs ≡ many
          go h many e = e
          go h spent e = absurd (never_runs_out e)
          go h (found K) e = absurd (found_within Δ limit n k xs K e h)

  -- A call whose body is guarded, as check 11 asked before, has itself for its only place: questions accepted before have the steps they had.
  pub guarded-alone : (limit n k : ℕ) (xs : List ℕ) → 1 ≤ limit → Guarded (Δ.body k)
      → places_of Δ limit (suc n) k xs ≡ found (place_of [] k xs ∷ [])
  unfolding places_of
  guarded-alone limit n k xs l g = guarded_from (λ k xs. eqb (length xs) (Δ.arity k)) Δ.body limit n k xs l g
