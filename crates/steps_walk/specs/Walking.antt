-- The steps of a part put into an area on one walk of its parallels and restrictions: what the functions that do so promise.
use Rattle.std.specs.Prelude.{◌≡◌, Bool, cond, ◌&&◌, List, ◌++◌, map, ℕ, ◌+◌, ◌<◌, ◌≤◌, eqb, leb, length, get_or, Option, Some, None}
use Rattle.calculus.specs.Term.{Term, nil, tau, inp, out, bout, mat, sum, par, res, call}
use Rattle.terms.specs.Limits.{name_count}
use Rattle.terms.specs.Question.{Question}
use Rattle.terms.specs.Question.{body_of}
use Rattle.steps.specs.Raw.{Candidate, blocked, left_steps, right_steps, restricted, communications, visible, silent}
use Rattle.steps_splicing.specs.Collecting.{PutIs, CollectIs}
use Rattle.steps_splicing.specs.Contexts.{Frame, raised, Placed}
use Rattle.steps.specs.Limits.{most_steps}
use Rattle.steps_splicing.specs.ListedParts.{Lists}
use Rattle.steps_rows.specs.Rows.{most_rows, kind_at, Row, Rows, RowsKept}
use Rattle.steps_walk.specs.declared.walk.Walked.{Walked}

-- The candidates in the order of the walk: those of each component, visible and silent, and the communications at each parallel once both sides are
-- done. They are those of Raw, in another order, and the list of steps does not depend on it.
module _ (body : ℕ → Term) where
  unfoldable pub own_of : Term → List Candidate
  own_of C = visible body 1 C ++ silent body 1 C

  unfoldable pub walked : Term → List Candidate
  walked (par P Q) = map (left_steps Q) (walked P) ++ (map (right_steps P) (walked Q) ++ communications (visible body 1 P) (visible body 1 Q))
  walked (res P) = map restricted (walked P)
  walked nil = own_of nil
  walked (tau P) = own_of (tau P)
  walked (inp a P) = own_of (inp a P)
  walked (out a b P) = own_of (out a b P)
  walked (bout a P) = own_of (bout a P)
  walked (mat a b P) = own_of (mat a b P)
  walked (sum P Q) = own_of (sum P Q)
  walked (call k xs) = own_of (call k xs)

-- Every number in a tally is below 2 to the power of 32, so that sums of a few hundred of them do not overflow.
abbrev pub most_number : ℕ
most_number = 4294967296

-- A row outside every restriction, by its kind and its object's slot: whether the object is extruded, and the action's object byte if it is not.
unfoldable pub row_opens : ℕ → ℕ → Bool
row_opens kind object = eqb kind 2 && leb name_count object

unfoldable pub row_object : ℕ → ℕ → ℕ → ℕ
row_object kind object x = cond (eqb kind 2) object x

-- The visible candidate number j of the term at `at`, put into the list by its row; the term's rows are those from `first` on. One that adds no
-- step is passed over.
pub record TakeRowIs (question part : List ℕ) (at depth : ℕ) (rows : List ℕ) (first j x : ℕ) (area : List ℕ) (count r : ℕ) (area' : List ℕ) : Type 0 where
  pub is : (q : Question) (P : Term) → Lists question part x q P
      → (K : List Frame) (C : Term) (number : ℕ)
      → Placed q.arities (body_of q.bodies) P K C at depth first number
      → j < length (visible (body_of q.bodies) 1 C)
      → (kind_at rows (first + j) ≡ 4 → ⊥)
      → Row depth (get_or (visible (body_of q.bodies) 1 C) j blocked) rows (first + j)
      → PutIs (raised K (get_or (visible (body_of q.bodies) 1 C) j blocked)) x area count r area'
  pub over : kind_at rows (first + j) ≡ 4 → (r ≡ count) × (area' ≡ area)

-- All of its visible candidates.
pub record TakeRowsIs (question part : List ℕ) (at depth : ℕ) (rows : List ℕ) (first last x : ℕ) (area : List ℕ) (count r : ℕ) (area' : List ℕ) : Type 0 where
  pub is : (q : Question) (P : Term) → Lists question part x q P
      → (K : List Frame) (C : Term) (number : ℕ)
      → Placed q.arities (body_of q.bodies) P K C at depth first number
      → last ≡ first + length (visible (body_of q.bodies) 1 C)
      → Rows depth (visible (body_of q.bodies) 1 C) rows first
      → CollectIs (map (raised K) (visible (body_of q.bodies) 1 C)) x area count r area'

-- All of its silent candidates, which are the part's from `number` on.
pub record TakeSilentIs (question part : List ℕ) (at depth number x : ℕ) (area : List ℕ) (count r : ℕ) (area' : List ℕ) : Type 0 where
  pub is : (q : Question) (P : Term) → Lists question part x q P
      → (K : List Frame) (C : Term) (first : ℕ)
      → Placed q.arities (body_of q.bodies) P K C at depth first number
      → CollectIs (map (raised K) (silent (body_of q.bodies) 1 C)) x area count r area'

-- What an answer says; where it says none a limit is passed, and no more rows are known.
abbrev pub walked_or : ℕ → Option Walked → Walked
walked_or n (Some w) = w
walked_or n None = record { rows = n; count = most_steps + 1 }

-- A number that an answer says passes no limit.
abbrev pub FewWalked : Option Walked → Type 0
FewWalked (Some w) = w.count ≤ most_steps
FewWalked None = Unit {0}

-- All of its candidates; where no limit is passed its visible ones are in the rows from n on, and the rows behind them begin at the answer.
pub record WalkIs (question part : List ℕ) (at depth number x : ℕ) (rows : List ℕ) (n : ℕ) (rows' area : List ℕ) (count : ℕ) (r : Walked) (area' : List ℕ) : Type 0 where
  pub inside : r.rows ≤ most_rows + 1
  pub on : n ≤ r.rows
  pub kept : RowsKept n rows rows'
  pub is : (q : Question) (P : Term) → Lists question part x q P
      → (K : List Frame) (C : Term)
      → Placed q.arities (body_of q.bodies) P K C at depth n number
      → CollectIs (map (raised K) (walked (body_of q.bodies) C)) x area count r.count area'
      × (r.count ≤ most_steps
      → (r.rows ≡ n + length (visible (body_of q.bodies) 1 C)) × Rows depth (visible (body_of q.bodies) 1 C) rows' n)
