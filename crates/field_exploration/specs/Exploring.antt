-- The situations found, in the slots of the work area, and what exploration promises.
use Rattle.std.specs.Prelude.{Option, Some, None, Bool, true, List, map, ◌≡◌, ℕ, ◌*◌, ◌<◌, ◌≤◌, length, get_or, drop}
use Rattle.terms.specs.Answer.{result}
use Rattle.terms.specs.Question.{Question, check_of}
use Rattle.calculus.specs.Lists.{◌∈◌, All}
use Rattle.field_slots.specs.Chains.{Chained}
use Rattle.field.specs.Exploration.{Row, Exploration, incomplete, explored, field_of}
use Rattle.field_slots.specs.Noted.{noted_count, note_at, SoleIn}
use Rattle.field.specs.Setting.{setting_of}
use Rattle.field.specs.Situation.{Situation, start_of}
use Rattle.field_pairs.specs.Slot.{slot_bytes, struck_at}
use Rattle.field_growth.specs.Holding.{SlotsHold}
use Rattle.field_growth.specs.Holding.{unanswered}

-- A situation with a permitted step that has no answer at all is struck out. One that is struck out has a permitted step whose answers, if any, all
-- lead to situations of smaller numbers that are struck out. Strike-out (crate verdict) goes on from there.
pub record StruckAt (work : List ℕ) (rs : List Row) (i : ℕ) (wants : List (List Situation)) : Type 0 where
  pub must : unanswered wants ≡ true → get_or work (struck_at i) 0 ≡ 0 → ⊥
  pub why : (get_or work (struck_at i) 0 ≡ 0 → ⊥)
      → (w : List Situation) × (w ∈ wants) × All (λ t. (j : ℕ) × (j < i) × ((d : Row) → (get_or rs j d).self ≡ t) × (get_or work (struck_at j) 0 ≡ 0 → ⊥)) w

unfoldable pub StruckFirst : List ℕ → List Row → Type 0
StruckFirst work rs = (i : ℕ) (d : Row) → i < length rs → StruckAt work rs i (get_or rs i d).wants

-- What is noted in a slot is the only answer to a permitted step of its situation.
unfoldable pub SoleNoted : List ℕ → List Row → Type 0
SoleNoted work rs = (i k : ℕ) (d : Row) → i < length rs → k < noted_count → SoleIn (map (λ t. t.self) rs) (get_or rs i d).wants (note_at work i k)

-- The answer: the field's size, and its situations in the slots; where it is incomplete, the area within the capacity is not determined, and
-- judge clears it.
unfoldable pub Explores : Exploration → Option ℕ → List ℕ → Type 0
Explores incomplete r work' = r ≡ None
Explores (explored rs) r work' = (r ≡ Some (length rs)) × SlotsHold work' (map (λ t. t.self) rs) × StruckFirst work' rs × SoleNoted work' rs

-- The same whether all names differ or not.
pub record ExploreIs (differ : Bool) (question : List ℕ) (capacity : ℕ) (work : List ℕ) (r : Option ℕ) (work' : List ℕ) : Type 0 where
  pub rest : drop (slot_bytes * capacity) work' ≡ drop (slot_bytes * capacity) work
  pub within : (n : ℕ) → r ≡ Some n → (1 ≤ n) × (n ≤ capacity)
  pub is : (q : Question) → check_of question ≡ result q → Explores (field_of (setting_of differ q.bodies) capacity (start_of differ q)) r work'
  pub chained : (q : Question) → check_of question ≡ result q → (n : ℕ) → r ≡ Some n → Chained capacity work' n
