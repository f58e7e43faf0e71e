-- The label of a candidate by its number, over the bytes of a term: what the functions that walk them promise. The term is `ren σ P`, where P is
-- what the bytes at hand code: in a called body σ puts the call's names for the parameters.
use Rattle.std.specs.Prelude.{◌≡◌, Option, Some, None, Bool, cond, List, ◌++◌, ℕ, ◌+◌, ◌-◌, ◌*◌, ◌<◌, ◌≤◌, max, length, get_or, drop, eqb, ltb}
use Rattle.calculus.specs.Term.{Term, ren}
use Rattle.terms.specs.Answer.{result}
use Rattle.terms.specs.Encoding.{name_byte, encode, InScope}
use Rattle.terms.specs.Limits.{name_count, longest_term}
use Rattle.terms.specs.Question.{Question, check_of}
use Rattle.steps_conditions.specs.Labels.{input_on, new_output_on, FirstIs, Labels}
use Rattle.terms.specs.Question.{body_of}
use Rattle.steps_tallies.specs.Candidates.{candidates, OwnNamesIf}
use Rattle.steps.specs.Raw.{blocked, communications, visible}
use Rattle.steps_conditions.specs.Slots.{slot_of, slot_count}
use Rattle.steps_tallies.specs.Tally.{TallyIs}
use Rattle.steps_conditions.specs.declared.action.Action.{Action}
use Rattle.steps_conditions.specs.declared.action.Action.TheVariants.{Silent, Output}
use Rattle.steps_conditions.specs.declared.action.Label.{Label}
use Rattle.steps_labels.specs.declared.label.Origin.{Origin}

-- The slot of a name byte beneath `inner` restrictions of these bytes, `depth` in all: a free name, one of those restrictions, or a parameter,
-- which stands for the slot of the call's name. Parameters are counted from the innermost.
unfoldable pub slot_at : List ℕ → ℕ → ℕ → ℕ → ℕ
slot_at args inner depth b =
    cond (ltb b 128) b (cond (ltb (b - 128) inner) (name_count + (depth - 1 - (b - 128))) (get_or args (b - 128 - inner) 0))

-- The names of a term under D binders, of which `free` may stand free, are taken by σ to names under `depth` restrictions, in these slots.
unfoldable pub HasSlots : ℕ → ℕ → List ℕ → ℕ → ℕ → (ℕ → ℕ) → Type 0
HasSlots free D args inner depth σ =
    (m : ℕ) → m < D + free → (slot_at args inner depth (name_byte D m) ≡ slot_of name_count depth (σ m)) × (σ m < depth + name_count)

-- the slots of the names of a call
unfoldable pub ArgumentsIs : List ℕ → ℕ → ℕ → List ℕ → ℕ → ℕ → List ℕ → Type 0
ArgumentsIs s at count args inner depth r =
    (j : ℕ) → j < count → get_or r j 0 ≡ slot_at args inner depth (get_or s (at + (count - 1 - j)) 0)

-- the action of a prefix by its first byte
unfoldable pub prefix_action : ℕ → ℕ → ℕ → Action
prefix_action t a b = cond (eqb t 1) Silent (cond (eqb t 2) (input_on a) (cond (eqb t 3) (Output a b) (new_output_on a)))

-- the one step of the prefix at `at`
abbrev pub PrefixLabelIs : List ℕ → ℕ → List ℕ → ℕ → ℕ → Label → Type 0
PrefixLabelIs s at args inner depth r =
    FirstIs (prefix_action (get_or s at 0) (slot_at args inner depth (get_or s (at + 1) 0)) (slot_at args inner depth (get_or s (at + 2) 0))) r

-- Every restriction that may be passed has a slot: of these bytes, and of a body that may be opened.
pub record Within (s : List ℕ) (at inner depth calls : ℕ) : Type 0 where
  pub short : length s ≤ longest_term
  pub once : calls ≤ 1
  pub outer : inner ≤ depth
  pub room : name_count + depth + (length s - at) + longest_term * calls ≤ slot_count

-- The i-th candidate, silent or visible, of the term at `at`. Nothing is said of numbers past the last.
pub record NthIs (question s : List ℕ) (at i : ℕ) (silently : Bool) (args : List ℕ) (inner depth calls : ℕ) (r : Option Label) : Type 0 where
  pub is : (q : Question) (free D : ℕ) (σ : ℕ → ℕ) → OwnNamesIf calls σ → (P : Term) (rest : List ℕ)
      → check_of question ≡ result q
      → free ≤ name_count
      → HasSlots free D args inner depth σ
      → InScope free q.arities D P
      → drop at s ≡ encode D P ++ rest
      → i < length (candidates silently (body_of q.bodies) calls (ren σ P))
      → Labels depth (get_or (candidates silently (body_of q.bodies) calls (ren σ P)) i blocked) r

-- The i-th communication of the term that stands behind `at` and the one that stands at `middle`.
pub record MeetingIs (question s : List ℕ) (at middle i : ℕ) (args : List ℕ) (inner depth calls : ℕ) (r : Option Label) : Type 0 where
  pub is : (q : Question) (free D : ℕ) (σ : ℕ → ℕ) → OwnNamesIf calls σ → (P Q : Term) (rest more : List ℕ)
      → check_of question ≡ result q
      → free ≤ name_count
      → HasSlots free D args inner depth σ
      → InScope free q.arities D P
      → InScope free q.arities D Q
      → drop (at + 1) s ≡ encode D P ++ more
      → drop middle s ≡ encode D Q ++ rest
      → i < length (communications (visible (body_of q.bodies) calls (ren σ P)) (visible (body_of q.bodies) calls (ren σ Q)))
      → Labels depth (get_or (communications (visible (body_of q.bodies) calls (ren σ P)) (visible (body_of q.bodies) calls (ren σ Q))) i blocked) r

-- The label of the candidate of this number of the term at `at` is that of the other number of the term at b.
unfoldable pub Leads : (s t : List ℕ) (at number : ℕ) (silently : Bool) (b n : ℕ) → Type 0
Leads s t at number silently b n =
    (question args : List ℕ) (inner depth calls : ℕ) (r : Option Label) → TallyIs question s calls t
    → NthIs question s b n silently args inner depth calls r
    → NthIs question s at number silently args inner depth calls r

-- the answer that the code builds for one term
abbrev pub single_origin : ℕ → ℕ → Origin
single_origin at number = record { at = at; number = number; middle = None }

-- Where the candidate of this number is found beneath choices and parallels: at one term, or among the communications of a parallel.
pub record OriginIs (s t : List ℕ) (at number : ℕ) (silently : Bool) (r : Origin) : Type 0 where
  pub on : at ≤ r.at
  pub one : r.middle ≡ None → r.at < length s → 5 < get_or s r.at 0 → get_or s r.at 0 < 8 → ⊥
  pub is : r.middle ≡ None → Leads s t at number silently r.at r.number
  pub inside : (m : ℕ) → r.middle ≡ Some m → (r.at < length s) × (r.at < m)
  pub met : (m : ℕ) → r.middle ≡ Some m → (question args : List ℕ) (inner depth calls : ℕ) (l : Option Label) → TallyIs question s calls t
      → MeetingIs question s r.at m r.number args inner depth calls l
      → NthIs question s at number silently args inner depth calls l

-- So many restrictions stand at `at` one within the other, and no other beneath them.
pub record RestrictionsIs (s : List ℕ) (at r : ℕ) : Type 0 where
  pub inside : at + r ≤ max at (length s)
  pub are : (j : ℕ) → j < r → get_or s (at + j) 0 ≡ 8
  pub ended : at + r < length s → get_or s (at + r) 0 ≡ 8 → ⊥

-- [Res] and [Open], once for each of `count` restrictions from `depth` on: from a label beneath them to one outside them.
pub record LeavesIs (label : Option Label) (depth count : ℕ) (r : Option Label) : Type 0 where
  pub is : (question s : List ℕ) (at i : ℕ) (silently : Bool) (args : List ℕ) (inner calls : ℕ)
      → ((j : ℕ) → j < count → get_or s (at + j) 0 ≡ 8)
      → NthIs question s (at + count) i silently args (inner + count) (depth + count) calls label
      → NthIs question s at i silently args inner depth calls r

-- How far the term beneath stands behind a first byte t: 3 for a match, the number of the restrictions that stand there otherwise.
unfoldable pub past_of : ℕ → ℕ → ℕ
past_of t count = cond (eqb t 5) 3 count

-- [Match], or [Res] and [Open] for each of `count` restrictions at `at`: from a label beneath to one outside.
pub record OutsideOfIs (s : List ℕ) (at count : ℕ) (args : List ℕ) (inner depth : ℕ) (label r : Option Label) : Type 0 where
  pub is : (question : List ℕ) (i : ℕ) (silently : Bool) (calls : ℕ)
      → (past_of (get_or s at 0) count ≡ 0 → ⊥)
      → ((j : ℕ) → j < count → get_or s (at + j) 0 ≡ 8)
      → NthIs question s (at + past_of (get_or s at 0) count) i silently args (inner + count) (depth + count) calls label
      → NthIs question s at i silently args inner depth calls r
