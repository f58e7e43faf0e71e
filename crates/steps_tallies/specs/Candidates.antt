-- What the action of a candidate does, by the candidate's number: the promises of the functions that find it. The term is `ren σ P`, where P is what
-- the bytes at hand code: in a called body σ puts the call's names for the parameters.
use Rattle.std.specs.Prelude.{◌≡◌, Bool, true, false, List, ℕ, ◌<◌}
use Rattle.calculus.specs.Term.{Term}
use Rattle.steps.specs.Raw.{Candidate, visible, silent}

-- the silent candidates of a term, or its visible ones
unfoldable pub candidates : Bool → (ℕ → Term) → ℕ → Term → List Candidate
candidates true body calls P = silent body calls P
candidates false body calls P = visible body calls P

-- Where a call is opened σ changes no name. How many candidates a call has depends on its names once it is opened with all that it reaches (document
-- 02, request 2026-01): two names made one may leave it fewer places. So numbers are said of a part in its own names, and of a called body, where no
-- call is opened, in whatever names.
abbrev pub OwnNamesIf : ℕ → (ℕ → ℕ) → Type 0
OwnNamesIf calls σ = 0 < calls → (n : ℕ) → σ n ≡ n
