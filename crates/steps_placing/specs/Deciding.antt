-- The matches that are decided where a candidate stands, before its restrictions are left: one of a restricted name with another blocks the candidate
-- in the end. The others ask what their condition does, however it is written: [a = b][b = c] asks what [c = a][b = a] does.
use Rattle.std.specs.Prelude.{◌≡◌, Bool, false, cond, not, ◌&&◌, ◌||◌, List, [], ◌∷◌, ◌⊎◌, ℕ, eqb, ltb}
use Rattle.calculus.specs.Cond.{Cond, canonical}
use Rattle.calculus.specs.Lists.{◌∈◌}
use Rattle.steps.specs.Raw.{Candidate, step, blocked}

-- The match of two different names, of which one is restricted: the names below d are.
unfoldable pub failing : (d a b : ℕ) → Bool
failing d a b = not (eqb a b) && (ltb a d || ltb b d)

unfoldable pub fails : ℕ → Cond → Bool
fails d [] = false
fails d (p ∷ M) = failing d p.0 p.1 || fails d M

-- The candidate under d restrictions with those matches decided, its condition in the canonical form. It is raised to one that is listed as the
-- candidate itself is.
unfoldable pub decided : ℕ → Candidate → Candidate
decided d (step M α P) = cond (fails d M) blocked (step (canonical M) α P)
decided d blocked = blocked

-- c adds no step to those of cs: it is blocked in the end, or one of cs but for how its condition is written.
unfoldable pub Again : ℕ → Candidate → List Candidate → Type 0
Again d c cs = (decided d c ≡ blocked) ⊎ ((b : Candidate) × (b ∈ cs) × (decided d c ≡ decided d b))
