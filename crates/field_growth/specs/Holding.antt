-- The situations found, in the slots of the work area, and what exploration promises.
use Rattle.std.specs.Prelude.{true, List, ℕ, ◌*◌, ◌<◌, length, get_or, Bool, false, [], ◌∷◌}
use Rattle.field_slots.specs.Key.{SituationAt}
use Rattle.field.specs.Situation.{Situation}
use Rattle.field_pairs.specs.Slot.{slot_bytes}

-- Slot i holds the situation of number i.
pub record SlotsHold (work : List ℕ) (known : List Situation) : Type 0 where
  pub held : (i : ℕ) (d : Situation) → i < length known → SituationAt work (slot_bytes * i) (get_or known i d)

-- some permitted step has no answer at all: nothing that is left answers it
unfoldable pub unanswered : List (List Situation) → Bool
unanswered [] = false
unanswered ([] ∷ ms) = true
unanswered ((s ∷ m) ∷ ms) = unanswered ms
