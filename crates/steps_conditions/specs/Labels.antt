-- The header of a candidate, condition and action without the result, and the rules on headers: what the functions that find it promise.
use Rattle.std.specs.Prelude.{◌≡◌, [], ℕ, ◌+◌, ◌<◌, ◌≤◌, Option, Some, None}
use Rattle.calculus.specs.Abstraction.{Act, tau_a, inp_a, out_a, bout_a}
use Rattle.calculus.specs.Cond.{Cond}
use Rattle.calculus.specs.Term.{Term}
use Rattle.terms.specs.Limits.{name_count}
use Rattle.steps.specs.Raw.{Candidate, step, blocked, matching, communication, restricted}
use Rattle.steps_conditions.specs.Slots.{slot_of, new_slot, slot_count, HasSlotClasses, HasClasses, Below}
use Rattle.steps_conditions.specs.declared.action.Action.{Action}
use Rattle.steps_conditions.specs.declared.action.Action.TheVariants.{Silent, Input, Output, NewOutput}
use Rattle.steps_conditions.specs.declared.action.Label.{Label}

-- an input, and an output of a new name, by the slot of the channel
abbrev pub input_on : ℕ → Action
input_on a = Input a new_slot

abbrev pub new_output_on : ℕ → Action
new_output_on a = NewOutput a new_slot

-- an action under d restrictions, by slots
unfoldable pub action_of : ℕ → Act → Action
action_of d tau_a = Silent
action_of d (inp_a a) = input_on (slot_of name_count d a)
action_of d (out_a a b) = Output (slot_of name_count d a) (slot_of name_count d b)
action_of d (bout_a a) = new_output_on (slot_of name_count d a)

-- every name of the action is below n
unfoldable pub ActionBelow : ℕ → Act → Type 0
ActionBelow n tau_a = Unit {0}
ActionBelow n (inp_a a) = a < n
ActionBelow n (out_a a b) = (a < n) × (b < n)
ActionBelow n (bout_a a) = a < n

-- a blocked candidate has no header
abbrev pub BlockedIs : Option Label → Type 0
BlockedIs r = r ≡ None

-- a step with the condition that is always true
pub record FirstIs (α : Action) (r : Label) : Type 0 where
  pub classes : HasSlotClasses r.condition.class []
  pub action : r.action ≡ α

-- the header of a step under d restrictions, whose names are in scope
pub record HeaderIs (d : ℕ) (M : Cond) (α : Act) (r : Label) : Type 0 where
  pub classes : HasClasses r.condition.class d M
  pub action : r.action ≡ action_of d α
  pub below : Below (d + name_count) M
  pub names : ActionBelow (d + name_count) α

unfoldable pub Labels : ℕ → Candidate → Option Label → Type 0
Labels d (step M α P) (Some r) = HeaderIs d M α r
Labels d (step M α P) None = ⊥
Labels d blocked r = BlockedIs r

-- A rule with one premise, from the label s of the premise.
pub record MatchingIs (s : Option Label) (a b : ℕ) (r : Option Label) : Type 0 where
  pub is : (d x y : ℕ) (c : Candidate) → a ≡ slot_of name_count d x → b ≡ slot_of name_count d y → x < d + name_count → y < d + name_count
      → Labels d c s → Labels d (matching x y c) r

-- the restriction at this level is left
pub record RestrictedIs (s : Option Label) (level : ℕ) (r : Option Label) : Type 0 where
  pub is : (c : Candidate) → Labels (1 + level) c s → Labels level (restricted c) r

pub record OutsideIs (s : Label) (level : ℕ) (r : Option Label) : Type 0 where
  pub is : (M : Cond) (α : Act) (P : Term) → HeaderIs (1 + level) M α s → Labels level (restricted (step M α P)) r

-- Where two actions meet: the channels of an output and an input.
unfoldable pub received_by : ℕ → Action → Option (ℕ × ℕ)
received_by a Silent = None
received_by a (Input b y) = Some (a, b)
received_by a (Output b y) = None
received_by a (NewOutput b y) = None

unfoldable pub meeting_of : Action → Action → Option (ℕ × ℕ)
meeting_of Silent β = None
meeting_of (Input a x) Silent = None
meeting_of (Input a x) (Input b y) = None
meeting_of (Input a x) (Output b y) = Some (a, b)
meeting_of (Input a x) (NewOutput b y) = Some (a, b)
meeting_of (Output a x) β = received_by a β
meeting_of (NewOutput a x) β = received_by a β

-- [Com] and [Close] on labels: the two conditions and the match of the channels
pub record MetIs (p q : Label) (r : Option Label) : Type 0 where
  pub is : (d : ℕ) (M N : Cond) (α β : Act) (P Q : Term) → name_count + d ≤ slot_count → HeaderIs d M α p → HeaderIs d N β q
      → Labels d (communication (step M α P) (step N β Q)) r

pub record CommunicationIs (p q r : Option Label) : Type 0 where
  pub is : (d : ℕ) (s t : Candidate) → name_count + d ≤ slot_count → Labels d s p → Labels d t q → Labels d (communication s t) r
