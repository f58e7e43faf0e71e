-- The visible candidates of a term in a table, four bytes for each: what it does, its channel and its object; the fourth byte is not used. Names
-- stand by their slots (Slots), which do not move when a restriction is left: so a row serves beneath a restriction and outside it. For the same
-- reason a match of a name with itself, and one of a restricted name with another, are decided before a row is put (Deciding).
use Rattle.std.specs.Prelude.{◌≡◌, Bool, true, cond, ◌&&◌, List, [], ◌++◌, ◌⊎◌, ℕ, ◌+◌, ◌-◌, ◌*◌, ◌<◌, ◌≤◌, length, get_or, take, drop, eqb, ltb}
use Rattle.calculus.specs.Abstraction.{Act, tau_a}
use Rattle.calculus.specs.Cond.{Cond}
use Rattle.calculus.specs.Term.{Term, ren}
use Rattle.terms.specs.Answer.{result}
use Rattle.terms.specs.Encoding.{encode, InScope}
use Rattle.terms.specs.Limits.{name_count}
use Rattle.terms.specs.Question.{Question, check_of}
use Rattle.steps_labels.specs.LabelWalk.{slot_at, HasSlots}
use Rattle.steps_conditions.specs.Labels.{input_on, new_output_on, action_of, ActionBelow}
use Rattle.terms.specs.Question.{body_of}
use Rattle.steps.specs.Raw.{Candidate, step, blocked, visible, silent}
use Rattle.steps_tallies.specs.Candidates.{OwnNamesIf}
use Rattle.steps_conditions.specs.declared.action.Action.{Action}
use Rattle.steps_conditions.specs.declared.action.Action.TheVariants.{Output}
use Rattle.steps_equal_branches.specs.Below.{decided, Again}
use Rattle.steps_equal_branches.specs.BranchRows.{Offers}

abbrev pub row_bytes : ℕ
row_bytes = 4

-- An accepted part has at most 1,054 visible candidates: 28 for each call of two bytes, and a byte 07 between two of them.
abbrev pub most_rows : ℕ
most_rows = 1056

-- The rows are a whole table, and the next to be filled is one of it or the one behind the last.
abbrev pub HasRows : (rows : List ℕ) (n : ℕ) → Type 0
HasRows rows n = (n ≤ most_rows + 1) × (row_bytes * most_rows ≤ length rows)

-- The kind is 1 for an input, 2 for an output, 3 for a new-name output, and 4 more for a candidate beneath a match of two free names, whose condition
-- the row does not say. It is 4 for a candidate that adds no step: an equal one comes earlier, which has the row that counts, or a match fails.
unfoldable pub kind_at : List ℕ → ℕ → ℕ
kind_at rows i = get_or rows (row_bytes * i) 0

unfoldable pub channel_at : List ℕ → ℕ → ℕ
channel_at rows i = get_or rows (row_bytes * i + 1) 0

unfoldable pub object_at : List ℕ → ℕ → ℕ
object_at rows i = get_or rows (row_bytes * i + 2) 0

-- The kind without the match.
unfoldable pub action_kind : ℕ → ℕ
action_kind kind = cond (ltb 4 kind) (kind - 4) kind

-- The action under d restrictions: an output of a name that is restricted further in extrudes it.
unfoldable pub row_action : (d kind channel object : ℕ) → Action
row_action d kind channel object =
    cond (eqb kind 1) (input_on channel) (cond (eqb kind 2 && ltb object (name_count + d)) (Output channel object) (new_output_on channel))

-- A candidate under d restrictions is a step with the action of its row, which has a condition only beneath a match.
pub record RowActs (d kind channel object : ℕ) (c : Candidate) : Type 0 where
  pub condition : Cond
  pub action : Act
  pub result : Term
  pub is : c ≡ step condition action result
  pub plain : kind ≤ 3 → condition ≡ []
  pub acts : action_of d action ≡ row_action d (action_kind kind) channel object
  pub below : ActionBelow (d + name_count) action

-- A candidate under d restrictions and its row: it is blocked if its channel is restricted further in, and else, beneath a match, it may be.
pub record Outlined (d : ℕ) (c : Candidate) (kind channel object : ℕ) : Type 0 where
  pub known : 0 < kind
  pub inner : name_count + d ≤ channel → c ≡ blocked
  pub acts : channel < name_count + d → ((3 < kind) × (c ≡ blocked)) ⊎ RowActs d kind channel object c

-- What the row says holds once the matches that can be are decided.
unfoldable pub Row : ℕ → Candidate → List ℕ → ℕ → Type 0
Row d c rows i = (kind_at rows i ≡ 4 → ⊥) → Outlined d (decided d c) (kind_at rows i) (channel_at rows i) (object_at rows i)

-- The candidates cs, under d restrictions, are in the rows from number n on; those of `before` come before them. A row of kind 4 has a candidate that
-- adds no step to these and the earlier ones of cs.
unfoldable pub RowsBehind : List Candidate → ℕ → List Candidate → List ℕ → ℕ → Type 0
RowsBehind before d cs rows n =
    (j : ℕ) → j < length cs
    → Row d (get_or cs j blocked) rows (n + j) × (kind_at rows (n + j) ≡ 4 → Again d (get_or cs j blocked) (before ++ take j cs))

abbrev pub Rows : ℕ → List Candidate → List ℕ → ℕ → Type 0
Rows = RowsBehind []

-- So many rows from number n on are of candidates beneath a match, or of such that add no step.
unfoldable pub Matched : ℕ → List ℕ → ℕ → Type 0
Matched count rows n = (j : ℕ) → j < count → 3 < kind_at rows (n + j)

-- The rows before number n are as they were.
unfoldable pub RowsKept : ℕ → List ℕ → List ℕ → Type 0
RowsKept n rows rows' = (k : ℕ) → k < row_bytes * n → get_or rows' k 0 ≡ get_or rows k 0

-- One row put, while there is room.
pub record PutRowIs (kind channel object n : ℕ) (rows : List ℕ) (r : ℕ) (rows' : List ℕ) : Type 0 where
  pub on : n ≤ r
  pub inside : r ≤ most_rows + 1
  pub kept : RowsKept n rows rows'
  pub is : n < most_rows → (r ≡ n + 1) × (kind_at rows' n ≡ kind) × (channel_at rows' n ≡ channel) × (object_at rows' n ≡ object)

-- So many rows of kind 4 put, while there is room.
pub record PutRepeatedIs (count n : ℕ) (rows : List ℕ) (r : ℕ) (rows' : List ℕ) : Type 0 where
  pub on : n ≤ r
  pub inside : r ≤ most_rows + 1
  pub kept : RowsKept n rows rows'
  pub is : n + count ≤ most_rows → (r ≡ n + count) × ((j : ℕ) → j < count → kind_at rows' (n + j) ≡ 4)

-- The slot of the name that the prefix at `at` sends, if it is a free output.
unfoldable pub sent_slot : List ℕ → ℕ → List ℕ → ℕ → ℕ → ℕ
sent_slot s at args inner depth = cond (eqb (get_or s at 0) 3) (slot_at args inner depth (get_or s (at + 2) 0)) 0

-- The kind of the row of a visible prefix, by its first byte.
unfoldable pub prefix_kind : ℕ → Bool → ℕ
prefix_kind t asked = cond asked (t + 3) (t - 1)

-- The row of the prefix at `at`.
abbrev pub PrefixRowIs : List ℕ → ℕ → Bool → List ℕ → ℕ → ℕ → ℕ → List ℕ → ℕ → List ℕ → Type 0
PrefixRowIs s at asked args inner depth = PutRowIs (prefix_kind (get_or s at 0) asked) (slot_at args inner depth (get_or s (at + 1) 0)) (sent_slot s at args inner depth)

-- Where the choice that begins at `root` and stands at `at` begins for what is behind its first byte or match: that is no branch.
unfoldable pub behind_root : (root at next : ℕ) → ℕ
behind_root root at next = cond (eqb root at) next root

-- Where the choice of a side at `at` begins: the sides of a choice belong to its own, and any other side stands alone.
unfoldable pub root_of : (t root at : ℕ) → ℕ
root_of t root at = cond (eqb t 6) root at

-- The visible candidates of the term at `at` are put into the rows from number n on, while there is room; the answer is the number behind the last,
-- or one past the last row. Beneath a match of free names, where `asked`, the rows say so. The term is `ren σ P`, as in LabelWalk, and stands in the choice that
-- begins at `root`.
pub record ScanIs (question s : List ℕ) (root at : ℕ) (asked : Bool) (args : List ℕ) (inner depth calls n : ℕ) (rows : List ℕ) (r : ℕ) (rows' : List ℕ) : Type 0 where
  pub on : n ≤ r
  pub inside : r ≤ most_rows + 1
  pub kept : RowsKept n rows rows'
  pub is : (q : Question) (free D : ℕ) (σ : ℕ → ℕ) → OwnNamesIf calls σ → (P : Term) (rest : List ℕ) (before : List Candidate)
      → check_of question ≡ result q
      → free ≤ name_count
      → HasSlots free D args inner depth σ
      → InScope free q.arities D P
      → drop at s ≡ encode D P ++ rest
      → Offers (body_of q.bodies) calls q.arities free D σ s args inner depth before root at
      → n + length (visible (body_of q.bodies) calls (ren σ P)) ≤ most_rows
      → (r ≡ n + length (visible (body_of q.bodies) calls (ren σ P)))
      × RowsBehind before depth (visible (body_of q.bodies) calls (ren σ P)) rows' n
      × (asked ≡ true → Matched (length (visible (body_of q.bodies) calls (ren σ P))) rows' n)

-- Every silent candidate is a step without a condition.
unfoldable pub Unconditional : List Candidate → Type 0
Unconditional cs = (j : ℕ) → j < length cs → (A : Term) × (get_or cs j blocked ≡ step [] tau_a A)

-- Whether the term at `at` has neither a match nor a parallel above its silent prefixes, in a called body either: then its silent candidates have no
-- condition.
pub record UnconditionalIs (question s : List ℕ) (at calls : ℕ) (r : Bool) : Type 0 where
  pub is : (q : Question) (free D : ℕ) (σ : ℕ → ℕ) → OwnNamesIf calls σ → (P : Term) (rest : List ℕ)
      → r ≡ true
      → check_of question ≡ result q
      → InScope free q.arities D P
      → drop at s ≡ encode D P ++ rest
      → Unconditional (silent (body_of q.bodies) calls (ren σ P))
