-- What the action of a candidate does, by the candidate's number: the promises of the functions that find it. The term is `ren σ P`, where P is what
-- the bytes at hand code: in a called body σ puts the call's names for the parameters.
use Rattle.std.specs.Prelude.{◌≡◌, Bool, false, cond, ◌&&◌, not, List, ◌++◌, ℕ, ◌+◌, ◌-◌, ◌<◌, ◌≤◌, length, get_or, drop, eqb}
use Rattle.calculus.specs.Abstraction.{Act, tau_a, inp_a, out_a, bout_a}
use Rattle.calculus.specs.Cond.{Cond}
use Rattle.calculus.specs.Term.{Term, ren}
use Rattle.terms.specs.Answer.{result}
use Rattle.terms.specs.Encoding.{encode, InScope}
use Rattle.terms.specs.Limits.{name_count}
use Rattle.terms_bytes.specs.NameTable.{table_names}
use Rattle.terms.specs.Question.{Question, check_of}
use Rattle.terms.specs.Question.{body_of}
use Rattle.steps_conditions.specs.Names.{turn}
use Rattle.steps.specs.Raw.{step, blocked}
use Rattle.steps_conditions.specs.Slots.{slot_of}
use Rattle.steps_tallies.specs.Tally.{end_at}
use Rattle.steps_passing.specs.declared.pass.Passed.{Passed}
use Rattle.steps_tallies.specs.Candidates.{candidates, OwnNamesIf}

-- b is what σ puts for the name in this slot
pub record Sent (free D : ℕ) (σ : ℕ → ℕ) (b object : ℕ) : Type 0 where
  pub name : ℕ
  pub within : name < D + free
  pub slot : object ≡ slot_of table_names D name
  pub is : b ≡ σ name

-- The kinds of document 01: 0 silent, 1 input, 2 free output, 3 new-name output.
unfoldable pub Acts : ℕ → ℕ → (ℕ → ℕ) → Act → ℕ → ℕ → Type 0
Acts free D σ tau_a kind object = kind ≡ 0
Acts free D σ (inp_a a) kind object = kind ≡ 1
Acts free D σ (out_a a b) kind object = (kind ≡ 2) × Sent free D σ b object
Acts free D σ (bout_a a) kind object = kind ≡ 3

-- What the action of the candidate number i does, if there is such a candidate.
pub record PassIs (question s : List ℕ) (at D calls : ℕ) (silently : Bool) (i : ℕ) (r : Passed) : Type 0 where
  pub slot : r.object < 256
  pub does : (q : Question) (free : ℕ) (σ : ℕ → ℕ) → OwnNamesIf calls σ → (P : Term) (rest : List ℕ)
      → check_of question ≡ result q
      → free ≤ name_count
      → InScope free q.arities D P
      → drop at s ≡ encode D P ++ rest
      → (M : Cond) (α : Act) (A : Term)
      → get_or (candidates silently (body_of q.bodies) calls (ren σ P)) i blocked ≡ step M α A
      → Acts free D σ α r.kind r.object

-- Of inaction or a prefix, by its first byte; a free output sends the name in its third.
pub record PrefixIs (s : List ℕ) (at D : ℕ) (r : Passed) : Type 0 where
  pub slot : r.object < 256
  pub kind : r.kind ≡ get_or s at 0 - 1
  pub object : get_or s at 0 ≡ 3 → r.object ≡ turn 128 table_names D (get_or s (at + 2) 0)

-- The right side of a choice or parallel stands where the left one ends.
pub record MiddleIs (s t : List ℕ) (at r : ℕ) : Type 0 where
  pub none : length s ≤ at + 1 → r ≡ at + 1
  pub is : at + 1 < length s → r ≡ end_at t (at + 1)

-- The answers that the code builds.
abbrev pub nothing_sent : Passed
nothing_sent = record { kind = 0; object = 0 }

-- [Open]: the name of the binder at level D, the innermost, is sent.
unfoldable pub opens_at : ℕ → ℕ → ℕ → Bool
opens_at D kind object = eqb kind 2 && eqb object (table_names + D)

unfoldable pub leaving_at : ℕ → Passed → Passed
leaving_at D p =
    record { kind = cond (opens_at D p.kind p.object) 3 p.kind; object = p.object }

-- A parameter of a called body is the call's name in its place.
unfoldable pub returned_at : List ℕ → ℕ → ℕ → Passed → Passed
returned_at s at D p =
    record { kind = p.kind; object = turn 128 table_names D (get_or s (at + (p.object - table_names)) 0) }

-- Whether a term that begins with one of the bytes 0 to 4 has a candidate: the silent prefix a silent one, the others a visible one.
unfoldable pub counted : Bool → ℕ → Bool
counted silently t = cond (eqb t 0) false (cond (eqb t 1) silently (not silently))
