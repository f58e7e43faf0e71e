-- A situation of the work area taken up: its free names, its apart pairs and the steps of both sides, and what the code promises of them.
use Rattle.std.specs.Prelude.{Option, Some, None, ◌≡◌, Bool, true, false, ◌&&◌, ◌||◌, List, ◌++◌, ℕ, ◌≤◌, eqb}
use Rattle.calculus.specs.Free.{fn}
use Rattle.terms.specs.Answer.{result}
use Rattle.terms.specs.Encoding.{InScope}
use Rattle.terms.specs.Limits.{name_count}
use Rattle.terms.specs.Question.{Question, check_of}
use Rattle.steps.specs.Limits.{most_steps}
use Rattle.steps.specs.Listed.{ListedStep}
use Rattle.steps.specs.Listing.{listed, steps_of}
use Rattle.steps_lister.specs.PartLister as lister
use Rattle.field_slots.specs.Key.{SituationAt}
use Rattle.field_renewal.specs.Below.{placed}
use Rattle.field_pairs.specs.NameFlags.{HasNames}
use Rattle.field.specs.Setting.{setting_of}
use Rattle.field.specs.Situation.{Situation, free_in, new_name}
use Rattle.field_pairs.specs.Slot.{flags_of}
use Rattle.field.specs.Successors.{past_limit, leads, moves, some_binds, successors}
use Rattle.field_taking_up.specs.declared.taking.TakenUp.{TakenUp}
use Rattle.field_renewal.specs.ListedEntries.{ListAt}
use Rattle.field_renewal.specs.ListedEntries.{EntriesAt}

unfoldable pub SomeBindsIs : List ℕ → ℕ → Bool → Type 0
SomeBindsIs area count r = (ss : List ListedStep) → EntriesAt area count ss → r ≡ some_binds ss

-- The limit of names, for the new name x.
unfoldable pub PastNamesIs : ℕ → List ℕ → ℕ → List ℕ → ℕ → Bool → Type 0
PastNamesIs x firsts n seconds m r =
    (ps qs : List ListedStep) → EntriesAt firsts n ps → EntriesAt seconds m qs → r ≡ (eqb x name_count && (some_binds ps || some_binds qs))

-- The lists of both sides, n and m steps, and that the situation's successors come of them, whether all names differ or not.
pub record SidesListed (q : Question) (s : Situation) (n m : ℕ) (firsts seconds : List ℕ) : Type 0 where
  pub ps : List ListedStep
  pub qs : List ListedStep
  pub first : ListAt q.arities firsts n ps
  pub second : ListAt q.arities seconds m qs
  pub first_list : steps_of q.bodies (new_name name_count s.first s.second) s.first ≡ listed ps
  pub second_list : steps_of q.bodies (new_name name_count s.first s.second) s.second ≡ listed qs
  pub leading : (differ : Bool) → successors (setting_of differ q.bodies) s
      ≡ leads (moves differ name_count (placed false) (free_in name_count s.first s.second) s.apart ps qs
      ++ moves differ name_count (placed true) (free_in name_count s.first s.second) s.apart qs ps)

unfoldable pub ListsAre : Question → Situation → Option (ℕ × ℕ) → List ℕ → List ℕ → Type 0
ListsAre q s None firsts seconds = (differ : Bool) → successors (setting_of differ q.bodies) s ≡ past_limit
ListsAre q s (Some (n, m)) firsts seconds = SidesListed q s n m firsts seconds

-- The bytes of the two parts of s, of a question with the definitions of q, and its new name.
pub record Sides (question first second : List ℕ) (x : ℕ) (q : Question) (s : Situation) : Type 0 where
  pub left : lister.Lists question first x q s.first
  pub right : lister.Lists question second x q s.second
  pub new : x ≡ new_name name_count s.first s.second

pub record ListsSides (question first second : List ℕ) (x : ℕ) (r : Option (ℕ × ℕ)) (firsts seconds : List ℕ) : Type 0 where
  pub few : (n m : ℕ) → r ≡ Some (n, m) → (n ≤ most_steps) × (m ≤ most_steps)
  pub is : (q : Question) (s : Situation) → Sides question first second x q s → ListsAre q s r firsts seconds

pub record TakenAs (q : Question) (s : Situation) (r : TakenUp) (firsts seconds : List ℕ) : Type 0 where
  pub free : HasNames r.free (fn s.first ++ fn s.second)
  pub apart : r.apart ≡ flags_of s.apart
  pub lists : ListsAre q s r.lists firsts seconds

pub record TakesUp (question work : List ℕ) (at : ℕ) (r : TakenUp) (firsts seconds : List ℕ) : Type 0 where
  pub few : (n m : ℕ) → r.lists ≡ Some (n, m) → (n ≤ most_steps) × (m ≤ most_steps)
  pub is : (q : Question) (s : Situation) → check_of question ≡ result q → SituationAt work at s
      → InScope name_count q.arities 0 s.first → InScope name_count q.arities 0 s.second
      → TakenAs q s r firsts seconds
