-- The candidates of a term whose calls are opened with all that they reach (document 02, request 2026-01): for each place of a call the own
-- candidates of its body, beneath the place's condition. A body's own candidates are those with no call opened.
use Rattle.std.specs.Prelude.{List, ℕ}
use Rattle.calculus.specs.Definitions.{Defs}
use Rattle.calculus.specs.Term.{Term}
use Rattle.steps.specs.Raw.{Candidate, of_places, places_in, visible_of, silent_of, visible, silent}
use Rattle.calls.specs.ReachSearch.{places_of}

module _ (Δ : Defs) (limit depth : ℕ) where
  -- [Con]: what a call gives, with all that it reaches
  unfoldable pub visible_reached : ℕ → List ℕ → List Candidate
  visible_reached k xs = of_places (visible Δ.body 0) Δ.body (places_in (places_of Δ limit depth k xs))

  unfoldable pub silent_reached : ℕ → List ℕ → List Candidate
  silent_reached k xs = of_places (silent Δ.body 0) Δ.body (places_in (places_of Δ limit depth k xs))

  -- Table 4.1 over such calls
  unfoldable pub visible_full : Term → List Candidate
  visible_full = visible_of visible_reached

  unfoldable pub silent_full : Term → List Candidate
  silent_full = silent_of visible_reached silent_reached
