-- The raw steps of a term, before the rule Canon: Table 4.1 as two functions, the visible steps and the silent ones. Two visible steps make
-- a silent one, and a silent one takes no part in a communication, so that nested parallels have polynomially many.
-- Candidates are numbered by their place. A restriction blocks a candidate and does not drop it, so that a candidate's number follows
-- from the numbers of those that it is made of.
use Rattle.std.specs.Prelude.{Bool, true, false, cond, ◌&&◌, List, [], ◌∷◌, ◌++◌, map, ℕ, zero, suc}
use Rattle.calculus.specs.Abstraction.{swap, Act, tau_a, inp_a, out_a, bout_a, weak}
use Rattle.calculus.specs.Term.{Term, nil, tau, inp, out, bout, mat, sum, par, res, call, ren, inst}
use Rattle.calculus.specs.Cond.{Cond, map_p}
use Rattle.calculus.specs.Definitions.{opened}
use Rattle.calls.specs.ReachSearch.{Place, Search, many, spent, found, reach_from}
use Rattle.steps.specs.Limits.{most_reached, deepest_calls}
unfoldable pub use Rattle.calculus.specs.Tidy.{outside}

-- A step: its condition, its action and its result. The result of an input or a new-name output is an abstraction, in which index 0 is the
-- name received or extruded.
pub data Candidate : Type 0 where
  step : Cond → Act → Term → Candidate
  blocked : Candidate

-- [Match]
unfoldable pub matching : ℕ → ℕ → Candidate → Candidate
matching a b (step M α P) = step ((a, b) ∷ M) α P
matching a b blocked = blocked

-- [Par]: the left side steps and Q stays; the right side steps and P stays
unfoldable pub left_steps : Term → Candidate → Candidate
left_steps Q (step M α P) = step M α (par P (weak α Q))
left_steps Q blocked = blocked

unfoldable pub right_steps : Term → Candidate → Candidate
right_steps P (step M α Q) = step M α (par (weak α P) Q)
right_steps P blocked = blocked

-- [Com] and [Close]; actions that do not meet make a blocked candidate
unfoldable pub meet : Cond → Act → Term → Cond → Act → Term → Candidate
meet M (out_a a y) P N (inp_a b) Q = step ((a, b) ∷ (M ++ N)) tau_a (par P (ren (inst y) Q))
meet M (inp_a a) P N (out_a b y) Q = step ((a, b) ∷ (M ++ N)) tau_a (par (ren (inst y) P) Q)
meet M (bout_a a) P N (inp_a b) Q = step ((a, b) ∷ (M ++ N)) tau_a (res (par P Q))
meet M (inp_a a) P N (bout_a b) Q = step ((a, b) ∷ (M ++ N)) tau_a (res (par P Q))
meet M (inp_a a) P N tau_a Q = blocked
meet M (inp_a a) P N (inp_a b) Q = blocked
meet M (out_a a y) P N tau_a Q = blocked
meet M (out_a a y) P N (out_a b z) Q = blocked
meet M (out_a a y) P N (bout_a b) Q = blocked
meet M (bout_a a) P N tau_a Q = blocked
meet M (bout_a a) P N (out_a b z) Q = blocked
meet M (bout_a a) P N (bout_a b) Q = blocked
meet M tau_a P N β Q = blocked

unfoldable pub communication : Candidate → Candidate → Candidate
communication (step M α P) (step N β Q) = meet M α P N β Q
communication (step M α P) blocked = blocked
communication blocked t = blocked

-- every s with every t, in the order of s and then of t
unfoldable pub communications : List Candidate → List Candidate → List Candidate
communications [] ts = []
communications (s ∷ ss) ts = map (communication s) ts ++ communications ss ts

-- The restricted name is index 0. A trivial match of it with itself vanishes before the restriction is tested (document 01, "Steps").
unfoldable pub leaves_alone : ℕ → ℕ → Bool
leaves_alone zero zero = true
leaves_alone zero (suc b) = false
leaves_alone (suc a) zero = false
leaves_alone (suc a) (suc b) = true

-- the condition merges the restricted name with no other
unfoldable pub restricted_alone : Cond → Bool
restricted_alone [] = true
restricted_alone (p ∷ M) = leaves_alone p.0 p.1 && restricted_alone M

-- [Res], and [Open] where the object alone is the restricted name; else an action that names it is blocked. The binder of a bound action
-- and the restriction change places.
unfoldable pub restricted_action : Cond → Act → Term → Candidate
restricted_action M tau_a P = step M tau_a (res P)
restricted_action M (inp_a zero) P = blocked
restricted_action M (inp_a (suc a)) P = step M (inp_a a) (res (ren swap P))
restricted_action M (out_a zero b) P = blocked
restricted_action M (out_a (suc a) zero) P = step M (bout_a a) P
restricted_action M (out_a (suc a) (suc b)) P = step M (out_a a b) (res P)
restricted_action M (bout_a zero) P = blocked
restricted_action M (bout_a (suc a)) P = step M (bout_a a) (res (ren swap P))

unfoldable pub restricted : Candidate → Candidate
restricted (step M α P) = cond (restricted_alone M) (restricted_action (map_p outside M) α P) blocked
restricted blocked = blocked

-- Table 4.1, given the candidates of the calls
module _ (visible_call : ℕ → List ℕ → List Candidate) where
  unfoldable pub visible_of : Term → List Candidate
  visible_of nil = []
  visible_of (tau P) = []
  visible_of (inp a P) = step [] (inp_a a) P ∷ []
  visible_of (out a b P) = step [] (out_a a b) P ∷ []
  visible_of (bout a P) = step [] (bout_a a) P ∷ []
  visible_of (mat a b P) = map (matching a b) (visible_of P)
  visible_of (sum P Q) = visible_of P ++ visible_of Q
  visible_of (par P Q) = map (left_steps Q) (visible_of P) ++ map (right_steps P) (visible_of Q)
  visible_of (res P) = map restricted (visible_of P)
  visible_of (call k xs) = visible_call k xs

  module _ (silent_call : ℕ → List ℕ → List Candidate) where
    unfoldable pub silent_of : Term → List Candidate
    silent_of nil = []
    silent_of (tau P) = step [] tau_a P ∷ []
    silent_of (inp a P) = []
    silent_of (out a b P) = []
    silent_of (bout a P) = []
    silent_of (mat a b P) = map (matching a b) (silent_of P)
    silent_of (sum P Q) = silent_of P ++ silent_of Q
    silent_of (par P Q) =
        map (left_steps Q) (silent_of P) ++ (map (right_steps P) (silent_of Q) ++ communications (visible_of P) (visible_of Q))
    silent_of (res P) = map restricted (silent_of P)
    silent_of (call k xs) = silent_call k xs

-- [Match], for each match of a condition
unfoldable pub beneath : Cond → Candidate → Candidate
beneath [] c = c
beneath (p ∷ C) c = matching p.0 p.1 (beneath C c)

-- the own candidates of the bodies of all places
unfoldable pub of_places : (Term → List Candidate) → (ℕ → Term) → List Place → List Candidate
of_places own body [] = []
of_places own body (p ∷ K) = map (beneath p.condition) (own (opened p.names (body p.definition))) ++ of_places own body K

-- the places found; past the limit a situation has no successors
unfoldable pub places_in : Search → List Place
places_in many = []
places_in spent = []
places_in (found K) = K

-- [Con]: a call, while one is left to open, is opened with all that it reaches through unprefixed calls (document 02, request 2026-01): for each place
-- the own candidates of its body, those with no call opened, beneath the place's condition.
module _ (body : ℕ → Term) where
  abbrev pub search_of : ℕ → List ℕ → Search
  search_of k xs = reach_from (λ l ys. true) body most_reached deepest_calls k xs [] []

  unfoldable pub places_of_call : ℕ → List ℕ → List Place
  places_of_call k xs = places_in (search_of k xs)

  unfoldable pub visible_calls : ℕ → ℕ → List ℕ → List Candidate
  visible_calls zero k xs = []
  visible_calls (suc n) k xs = of_places (visible_of (λ l ys. [])) body (places_of_call k xs)

  unfoldable pub silent_calls : ℕ → ℕ → List ℕ → List Candidate
  silent_calls zero k xs = []
  silent_calls (suc n) k xs = of_places (silent_of (λ l ys. []) (λ l ys. [])) body (places_of_call k xs)

  unfoldable pub visible : ℕ → Term → List Candidate
  visible n = visible_of (visible_calls n)

  unfoldable pub silent : ℕ → Term → List Candidate
  silent n = silent_of (visible_calls n) (silent_calls n)
