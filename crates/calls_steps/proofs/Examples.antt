-- Candidates of calls without a prefix (document 02, request 2026-01), on the definitions of crate calls' Examples. Assumes nothing.
use mathlib.Core.List.{[], ◌∷◌}
use mathlib.Core.Path.{◌≡◌, refl}
use Rattle.calculus.specs.Abstraction.{out_a}
use Rattle.calculus.specs.Cond.{join, cls, above, matches_to, matches_below, canonical}
use Rattle.calculus.specs.Term.{nil, call}
use Rattle.calls.specs.ReachSearch.{same_names, same_pairs, same_call, same_place, is_known, is_called, differing, reach_term, reach_from, places_of}
use Rattle.calls.proofs.Examples.{alone, matched, matched_closed, again, again_closed, turned, turned_closed}
use Rattle.steps.specs.Raw.{step, matching, visible_of, visible_calls, visible, beneath, of_places, places_in}
use Rattle.calls_steps.specs.Expanding.{visible_reached, visible_full}

-- [a=b]K⟨a,b⟩ + āb.0 has its output under [b=a] and under no condition,
pub two_outputs : visible_full (alone 2 matched matched_closed) 64 577 (call 0 (0 ∷ 1 ∷ [])) ≡ step ((1, 0) ∷ []) (out_a 0 1) nil ∷ step [] (out_a 0 1) nil ∷ []
unfolding visible_full visible_of visible_calls visible visible_reached of_places places_in beneath matching
    places_of reach_from reach_term is_known is_called differing same_place same_call same_pairs same_names canonical cls join above matches_to matches_below
two_outputs = refl

-- K⟨b,a⟩ + āb.0 has one on either name,
pub either_output : visible_full (alone 2 turned turned_closed) 64 577 (call 0 (0 ∷ 1 ∷ [])) ≡ step [] (out_a 1 0) nil ∷ step [] (out_a 0 1) nil ∷ []
unfolding visible_full visible_of visible_calls visible visible_reached of_places places_in beneath matching
    places_of reach_from reach_term is_known is_called differing same_place same_call same_pairs same_names canonical cls join above matches_to matches_below
either_output = refl

-- and a call to itself alone has no step.
pub no_output : visible_full (alone 1 again again_closed) 64 577 (call 0 (0 ∷ [])) ≡ []
unfolding visible_full visible_of visible_calls visible visible_reached of_places places_in
    places_of reach_from reach_term is_known is_called differing same_place same_call same_pairs same_names canonical cls join above matches_to matches_below
no_output = refl
