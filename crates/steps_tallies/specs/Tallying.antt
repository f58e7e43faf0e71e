-- What the functions that make a tally promise: the entry of one place, and the entries from a place on.
use Rattle.std.specs.Prelude.{Bool, cond, ◌≡◌, List, ◌++◌, ℕ, ◌+◌, ◌-◌, ◌*◌, ◌<◌, ◌≤◌, max, eqb, leb, length, drop}
use Rattle.calculus.specs.Term.{Term, call, ren}
use Rattle.terms.specs.Encoding.{encode, InScope}
use Rattle.terms.specs.Limits.{longest_term}
use Rattle.steps.specs.Raw.{visible, silent}
use Rattle.steps_tallies.specs.Candidates.{OwnNamesIf}
use Rattle.steps_tallies.specs.Tally.{visible_at, silent_at, end_at, visible_call, silent_call, Few, FewCalls}
use Rattle.steps_tallies.specs.declared.tally.Entry.{Entry}

-- A part has no more candidates of one kind: 112 for each of its bytes, and the square of that.
abbrev pub most_candidates : ℕ
most_candidates = 157351936

-- the visible or the silent ones
unfoldable pub number_at : List ℕ → ℕ → Bool → ℕ
number_at t at silently = cond silently (silent_at t at) (visible_at t at)

-- Whatever names a call has, its candidates are so many.
unfoldable pub CallsAre : List ℕ → (ℕ → Term) → ℕ → List ℕ → Type 0
CallsAre arities body n called =
    (k : ℕ) (xs : List ℕ) → k < length arities
    → (visible_call called k ≡ length (visible body n (call k xs))) × (silent_call called k ≡ length (silent body n (call k xs)))

-- The entry of the place `at`, from the numbers of the calls.
pub record EntryIs (s arities called : List ℕ) (at : ℕ) (r : Entry) : Type 0 where
  pub on : at ≤ r.end
  pub inside : r.end ≤ max at (length s)
  pub few : (B : ℕ) → FewCalls B called → Few B (r.end - at) r.visible r.silent
  pub is : (body : ℕ → Term) (n free D : ℕ) (σ : ℕ → ℕ) → OwnNamesIf n σ → (P : Term) (rest : List ℕ)
      → CallsAre arities body n called
      → InScope free arities D P
      → drop at s ≡ encode D P ++ rest
      → (r.visible ≡ length (visible body n (ren σ P)))
      × (r.silent ≡ length (silent body n (ren σ P)))
      × (r.end ≡ at + length (encode D P))

-- Nothing stands past the bytes; behind the front of another term the entries are read off the tally.
unfoldable pub nothing_at : ℕ → Entry
nothing_at e = record { visible = 0; silent = 0; end = e }

unfoldable pub entry_at : List ℕ → ℕ → Entry
entry_at t at = record { visible = visible_at t at; silent = silent_at t at; end = end_at t at }

unfoldable pub tallied_entry : List ℕ → ℕ → ℕ → Entry
tallied_entry t at size = cond (leb size at) (nothing_at at) (entry_at t at)

-- The forms of Table 4.1: a prefix by its first byte, a call, a choice, a parallel.
unfoldable pub prefix_entry : ℕ → ℕ → Entry
prefix_entry t e = cond (eqb t 1) (record { visible = 0; silent = 1; end = e }) (record { visible = 1; silent = 0; end = e })

unfoldable pub call_entry : List ℕ → ℕ → ℕ → Entry
call_entry called k e = record { visible = visible_call called k; silent = silent_call called k; end = e }

unfoldable pub choice_entry : Entry → Entry → Entry
choice_entry p q = record { visible = p.visible + q.visible; silent = p.silent + q.silent; end = q.end }

unfoldable pub parallel_entry : Entry → Entry → Entry
parallel_entry p q = record { visible = p.visible + q.visible; silent = p.silent + q.silent + p.visible * q.visible; end = q.end }

-- no more than the longest term may have
unfoldable pub Small : Entry → Type 0
Small p = (p.visible ≤ longest_term * longest_term) × (p.silent ≤ most_candidates)

-- The entries from a place on are tallied.
unfoldable pub Filled : List ℕ → List ℕ → List ℕ → ℕ → List ℕ → Type 0
Filled s arities called from t =
    (at : ℕ) → from ≤ at → at < length s → (at < end_at t at) × EntryIs s arities called at (entry_at t at)
