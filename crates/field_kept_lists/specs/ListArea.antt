-- The area of one side's lists: the list at hand and kept lists of few steps, each with a label that says whose list it is. So a list that is there
-- need not be made again.
use Rattle.std.specs.Prelude.{Option, Some, None, ◌≡◌, List, ℕ, ◌+◌, ◌*◌, ◌<◌, ◌≤◌, length, get_or, take, drop}
use Rattle.calculus.specs.Free.{Free}
use Rattle.calculus.specs.Term.{Term}
use Rattle.terms_bytes.specs.FieldPlaces.{size_at}
use Rattle.terms.specs.Limits.{name_count, longest_term}
use Rattle.terms.specs.Question.{Question}
use Rattle.steps.specs.Limits.{step_bytes, most_steps}
use Rattle.steps.specs.Listed.{ListedStep}
use Rattle.steps.specs.Listing.{unsettled, listed, steps_of}
use Rattle.steps.specs.Operations.{list_bytes}
use Rattle.steps_entries.specs.Entries.{list_room}
use Rattle.steps_lister.specs.PartLister.{Lists}

-- The area: the steps of the list at hand, its label, and the kept lists, each a label and behind it room for a few steps.
abbrev pub label_place : ℕ
label_place = list_room

abbrev pub label_bytes : ℕ
label_bytes = 4 + longest_term

abbrev pub kept_steps : ℕ
kept_steps = 6

abbrev pub kept_bytes : ℕ
kept_bytes = label_bytes + kept_steps * step_bytes

abbrev pub kept_lists : ℕ
kept_lists = 26

abbrev pub kept_place : ℕ → ℕ
kept_place i = label_place + label_bytes + kept_bytes * i

abbrev pub list_area : ℕ
list_area = kept_place kept_lists

abbrev pub label_at : List ℕ → ℕ → List ℕ
label_at area p = take label_bytes (drop p area)

abbrev pub kept_at : List ℕ → ℕ → List ℕ
kept_at area i = take kept_bytes (drop (kept_place i) area)

-- A label: the new name, the part's length, the number of steps in two bytes, and the part.
pub record LabelIs (label part : List ℕ) (x : ℕ) : Type 0 where
  pub name : get_or label 0 0 ≡ x
  pub size : get_or label 1 0 ≡ length part
  pub bytes : take (length part) (drop 4 label) ≡ part

abbrev pub count_in : List ℕ → ℕ
count_in label = size_at label 2

-- nothing is changed but the n bytes at p
pub record Elsewhere (p n : ℕ) (area area' : List ℕ) : Type 0 where
  pub before : take p area' ≡ take p area
  pub behind : drop (p + n) area' ≡ drop (p + n) area

pub record PutsLabel (area : List ℕ) (p : ℕ) (part : List ℕ) (x n : ℕ) (area' : List ℕ) : Type 0 where
  pub label : LabelIs (label_at area' p) part x
  pub count : count_in (label_at area' p) ≡ n
  pub kept : Elsewhere p label_bytes area area'

-- The n steps of the part for the new name x, which is free in none of the terms that are listed, stand at the beginning of the area.
pub record ListIn (question part : List ℕ) (x n : ℕ) (area : List ℕ) : Type 0 where
  pub few : n ≤ most_steps
  pub is : (q : Question) (P : Term) → Lists question part x q P → ¬ Free x P
      → (ss : List ListedStep) × (steps_of q.bodies x P ≡ listed ss) × (length ss ≡ n) × (take (step_bytes * n) area ≡ list_bytes ss)

-- What a label says of an area is so. A name past the limit says that there is no list.
abbrev pub Tells : List ℕ → List ℕ → List ℕ → Type 0
Tells question label area = (part : List ℕ) (x : ℕ) → x ≤ name_count → LabelIs label part x → ListIn question part x (count_in label) area

-- one of the kept lists
pub record Kept (question kept : List ℕ) : Type 0 where
  pub few : count_in (take label_bytes kept) ≤ kept_steps
  pub is : Tells question (take label_bytes kept) (drop label_bytes kept)

-- What the labels say is so.
pub record Labelled (question area : List ℕ) : Type 0 where
  pub room : list_area ≤ length area
  pub is : Tells question (label_at area label_place) area
  pub kept : (i : ℕ) → i < kept_lists → Kept question (kept_at area i)

-- the place of one of the kept lists
pub record KeptPlace (p : ℕ) : Type 0 where
  pub number : ℕ
  pub among : number < kept_lists
  pub is : p ≡ kept_place number

-- The list kept at p of some area is brought to hand in this one: whatever the question, what the labels say stays so.
abbrev pub Brings : List ℕ → ℕ → List ℕ → ℕ → List ℕ → ℕ → List ℕ → Type 0
Brings from p part x area n area' =
    (question : List ℕ) → Labelled question from → LabelIs (label_at from p) part x → Labelled question area → ListIn question part x n area' × Labelled question area'

-- The list at hand may be kept.
abbrev pub Keeps : List ℕ → List ℕ → ℕ → ℕ → List ℕ → Type 0
Keeps area part x n area' =
    (question : List ℕ) → Labelled question area → ListIn question part x n area → ListIn question part x n area' × Labelled question area'

-- The answer on one side.
unfoldable pub SideIs : List ℕ → List ℕ → ℕ → Option ℕ → List ℕ → Type 0
SideIs question part x None area = (q : Question) (P : Term) → Lists question part x q P → ¬ Free x P → steps_of q.bodies x P ≡ unsettled
SideIs question part x (Some n) area = ListIn question part x n area × (length part ≤ longest_term)
