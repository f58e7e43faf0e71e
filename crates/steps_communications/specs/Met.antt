-- The steps of a part put into an area on one walk of its parallels and restrictions: what the functions that do so promise.
use Rattle.std.specs.Prelude.{◌≡◌, Bool, true, cond, not, List, map, ◌++◌, ℕ, ◌+◌, ◌<◌, ◌≤◌, eqb, length, get_or, drop}
use Rattle.calculus.specs.Abstraction.{Act, tau_a, bout_a}
use Rattle.calculus.specs.Cond.{Cond}
use Rattle.calculus.specs.Term.{Term, par}
use Rattle.terms.specs.Answer.{result}
use Rattle.terms.specs.Encoding.{encode, InScope}
use Rattle.terms.specs.Limits.{name_count}
use Rattle.terms.specs.Question.{Question, check_of}
use Rattle.terms.specs.Question.{body_of}
use Rattle.steps_conditions.specs.Labels.{action_of, ActionBelow}
use Rattle.steps_passing.specs.Passing.{MiddleIs}
use Rattle.steps.specs.Raw.{step, blocked, communication, communications, visible, silent}
use Rattle.steps_splicing.specs.Collecting.{PutIs, CollectIs}
use Rattle.steps_splicing.specs.Contexts.{Frame, raised, Placed}
use Rattle.steps_splicing.specs.ListedParts.{Lists}
use Rattle.steps_splicing.specs.Locating.{LocateIs, Classed}
use Rattle.steps_splicing.specs.Ready.{Inside}
use Rattle.steps_splicing.specs.declared.locate.Located.{Located}
use Rattle.steps_placing.specs.Putting.{CanPut}
use Rattle.steps_rows.specs.Rows.{row_action, Rows}
use Rattle.steps_communications.specs.Meeting.{most_numbers}
use Rattle.steps_communications.specs.declared.meet.Components.{Components}
use Rattle.steps_communications.specs.declared.meet.Met.{Met}
use Rattle.steps_communications.specs.declared.meet.Node.{Node}
use Rattle.steps_communications.specs.declared.meet.Pair.{Pair}
use Rattle.steps_communications.specs.declared.meet.Partner.{Partner}

-- The communications of the parallel at `at`, whose sides' visible candidates are in the rows from `first` and from `middle` on, up to `last`; `number`
-- is that of the parallel's first silent candidate, and `before` of its own come before its communications.
pub record MeetsIs (question part : List ℕ) (at depth number before x : ℕ) (rows : List ℕ) (first middle last : ℕ) (area : List ℕ) (count r : ℕ) (area' : List ℕ) : Type 0 where
  pub is : (q : Question) (P : Term) → Lists question part x q P
      → (K : List Frame) (L R : Term)
      → Placed q.arities (body_of q.bodies) P K (par L R) at depth first number
      → before ≡ length (silent (body_of q.bodies) 1 L) + length (silent (body_of q.bodies) 1 R)
      → middle ≡ first + length (visible (body_of q.bodies) 1 L)
      → last ≡ middle + length (visible (body_of q.bodies) 1 R)
      → Rows depth (visible (body_of q.bodies) 1 L) rows first
      → Rows depth (visible (body_of q.bodies) 1 R) rows middle
      → CollectIs (map (raised K) (communications (visible (body_of q.bodies) 1 L) (visible (body_of q.bodies) 1 R))) x area count r area'

-- The components that have the candidates of two rows.
pub record ComponentsAre (part tally : List ℕ) (node : Node) (pair : Pair) (r : Components) : Type 0 where
  pub left : LocateIs part tally (node.at + 1) node.depth pair.left.number r.left
  pub middle : ℕ
  pub ends : MiddleIs part tally node.at middle
  pub right : LocateIs part tally middle node.depth pair.right.number r.right

-- The component of the row that sends.
unfoldable pub sending_of : Pair → Components → Located
sending_of pair both = cond (eqb pair.left.kind 1) both.right both.left

-- Whether the candidate of a component is known to send a new name of its own.
pub record SendsNewIs (question part : List ℕ) (l : Located) (r : Bool) : Type 0 where
  pub is : r ≡ true → (q : Question) (C : Term) (rest : List ℕ) → check_of question ≡ result q → InScope name_count q.arities l.depth C
      → drop l.at part ≡ encode l.depth C ++ rest
      → (N : Cond) (γ : Act) (A : Term) → get_or (visible (body_of q.bodies) 1 C) l.number blocked ≡ step N γ A
      → (a : ℕ) × (γ ≡ bout_a a)

-- The action of a candidate under d restrictions is that of a row which says no match.
pub record ActsAs (d : ℕ) (row : Partner) (α : Act) : Type 0 where
  pub acts : action_of d α ≡ row_action d row.kind row.channel row.object
  pub below : ActionBelow (d + name_count) α

-- The communication of two rows' candidates at the parallel of a node: as a candidate of the part it is the silent step with the condition M and the
-- result W.
pub record Communicates (question part : List ℕ) (node : Node) (pair : Pair) (q : Question) (P : Term) (M : Cond) (W : Term) : Type 0 where
  pub lists : Lists question part node.x q P
  pub frames : List Frame
  pub left : Term
  pub right : Term
  pub first : ℕ
  pub placed : Placed q.arities (body_of q.bodies) P frames (par left right) node.at node.depth first node.number
  pub left_cond : Cond
  pub left_act : Act
  pub left_result : Term
  pub left_inside : pair.left.number < length (visible (body_of q.bodies) 1 left)
  pub left_step : get_or (visible (body_of q.bodies) 1 left) pair.left.number blocked ≡ step left_cond left_act left_result
  pub left_acts : ActsAs node.depth pair.left left_act
  pub right_cond : Cond
  pub right_act : Act
  pub right_result : Term
  pub right_inside : pair.right.number < length (visible (body_of q.bodies) 1 right)
  pub right_step : get_or (visible (body_of q.bodies) 1 right) pair.right.number blocked ≡ step right_cond right_act right_result
  pub right_acts : ActsAs node.depth pair.right right_act
  -- one receives, the other sends
  pub opposite : eqb pair.right.kind 1 ≡ not (eqb pair.left.kind 1)
  pub number : pair.number < length (silent (body_of q.bodies) 1 (par left right))
  pub numbered : get_or (silent (body_of q.bodies) 1 (par left right)) pair.number blocked ≡ communication (step left_cond left_act left_result) (step right_cond right_act right_result)
  pub is : raised frames (communication (step left_cond left_act left_result) (step right_cond right_act right_result)) ≡ step M tau_a W

-- What putting a communication into the list needs.
abbrev pub CanTake : (question bodies part tally area : List ℕ) (count : ℕ) (met : Met) (class : List ℕ) → Type 0
CanTake question bodies part tally area count met class =
    CanPut question bodies part tally area count × Inside part met.node.at met.node.depth × (name_count ≤ length class)
    × (met.node.number + met.pair.number ≤ most_numbers + most_numbers)

pub record TakeMetIs (question part : List ℕ) (met : Met) (class area : List ℕ) (count r : ℕ) (area' : List ℕ) : Type 0 where
  pub is : (q : Question) (P : Term) (M : Cond) (W : Term) → Communicates question part met.node met.pair q P M W → Classed met.merges class M
      → PutIs (step M tau_a W) met.node.x area count r area'
