-- The steps of a call are exactly the own steps of the places in its table, each under its condition (document 02, request 2026-01). Assumes nothing.
use mathlib.Core.List.{List, [], ◌++◌}
use Prim.Native.Nat.{ℕ}
use Rattle.calculus.specs.Abstraction.{Act}
use Rattle.calculus.specs.Cond.{Cond}
use Rattle.calculus.specs.Definitions.{Defs}
use Rattle.calculus.specs.Term.{Term, call}
use Rattle.calculus.proofs.Conditions.{◌~◌, ~_refl}
use Rattle.calculus.proofs.Working.{Trans}
use Rattle.calls.specs.Reach.{Reached}
use Rattle.calls.proofs.Reaching.{Closed, Sound, Given, given, of_given, held}
use Rattle.steps_places.specs.PlaceTable.{InTable, PlacesAre}

module _ (Δ : Defs) (k : ℕ) (xs t f : List ℕ) (P : PlacesAre Δ k xs t f) where
  -- The places of the table have the call and are closed under going on.
  pub table_closed : Closed Δ (InTable Δ xs t f) k xs
  table_closed = record {
    start = ([], P.start, ~_refl []);
    onward = λ p w {C} {l} {ys} n b. (p.condition ++ C, P.onward p w C l ys b, ~_refl (p.condition ++ C));
  }

  -- and are all reached.
  pub table_sound : Sound Δ (InTable Δ xs t f) k xs
  unfolding Sound
  table_sound p w = let (C, r, a, b) = P.sound p w in (C, r, (a, b))

  -- Every call that is reached is in the table, under its condition up to the form.
  pub reached_in_table : {l : ℕ} {ys : List ℕ} {C : Cond} → Reached Δ k xs C l ys
      → (E : Cond) × InTable Δ xs t f (record { condition = E; definition = l; names = ys }) × (E ~ C)
  reached_in_table r = held Δ (InTable Δ xs t f) k xs table_closed r

  -- A step of the call is an own step of a place in the table; and such a step is one of the call, up to the form of the condition.
  pub steps_in_table : {M : Cond} {α : Act} {R : Term} → Trans Δ (call k xs) M α R → Given Δ (InTable Δ xs t f) k xs table_closed M α R
  steps_in_table s = given Δ (InTable Δ xs t f) k xs table_closed s

  pub table_to_steps : {M : Cond} {α : Act} {R : Term} → Given Δ (InTable Δ xs t f) k xs table_closed M α R → (N : Cond) × Trans Δ (call k xs) N α R × (N ~ M)
  table_to_steps g = of_given Δ (InTable Δ xs t f) k xs table_closed table_sound g
