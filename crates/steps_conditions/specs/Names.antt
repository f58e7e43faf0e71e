-- What the names of the bytes that a walk is at stand for. A called body is walked in place under its parameters, so its names stand for
-- others; a table says which, by slots (Slots): a name's slot among these bytes holds the slot of the name outside.
use Rattle.std.specs.Prelude.{◌≡◌, Bool, true, cond, List, ℕ, ◌+◌, ◌-◌, ◌<◌, length, get_or, ltb}
use Rattle.terms.specs.Limits.{greatest_arity, longest_term}
use Rattle.terms_bytes.specs.NameTable.{table_names}
use Rattle.steps_conditions.specs.Slots.{slot_of}

-- Binders around a term: a body's parameters, and at most one for each byte.
abbrev pub most_binders : ℕ
most_binders = greatest_arity + longest_term

abbrev pub name_slots : ℕ
name_slots = table_names + most_binders

-- The table has τ, which takes the names of terms under D binders, with `free` free names, to names under D' restrictions.
unfoldable pub HasNames : ℕ → ℕ → ℕ → List ℕ → (ℕ → ℕ) → Type 0
HasNames free D D' names τ =
    (m : ℕ) → m < D + free → (get_or names (slot_of table_names D m) 0 ≡ slot_of table_names D' (τ m)) × (τ m < D' + table_names)

-- This is the slot of the name x that a step receives or extrudes.
unfoldable pub HasNew : ℕ → ℕ → ℕ → Type 0
HasNew D' new x = (new ≡ slot_of table_names D' x) × (x < D' + table_names)

-- The slots of the free names and of D binders are as they were.
unfoldable pub Kept : ℕ → List ℕ → List ℕ → Type 0
Kept D names names' = (k : ℕ) → k < table_names + D → get_or names' k 0 ≡ get_or names k 0

-- Each name stands for itself: the free ones and those of D binders.
unfoldable pub OwnNames : ℕ → List ℕ → Type 0
OwnNames D names = (k : ℕ) → k < table_names + D → get_or names k 0 ≡ k

-- D binders numbered from `from` on, inward or outward, are numbered from `to` on the other way round. What is below `from` is a free name.
unfoldable pub turn : ℕ → ℕ → ℕ → ℕ → ℕ
turn from to D w = cond (ltb w from) w (cond (ltb (w - from) D) (to + (D - 1 - (w - from))) 0)

-- The table for a called body.
unfoldable pub CalledIs : List ℕ → ℕ → ℕ → ℕ → List ℕ → List ℕ → Type 0
CalledIs s at count D names r =
    (j : ℕ) → j < count → get_or r (table_names + j) 0 ≡ get_or names (turn 128 table_names D (get_or s (at + j) 0)) 0

-- Terms under D binders are written under D' restrictions, and the bytes of their names stay: there are as many of both, or no binders.
unfoldable pub LevelsIs : ℕ → ℕ → Bool → Type 0
LevelsIs D D' r = r ≡ true → 0 < D → D' ≡ D

-- Each name stays as it is: besides, the slots in use hold themselves.
unfoldable pub UnchangedIs : List ℕ → ℕ → ℕ → Bool → Type 0
UnchangedIs names D D' r = r ≡ true → LevelsIs D D' true × ((i : ℕ) → i < table_names + D → get_or names i 0 ≡ i)

-- The table's bytes of the free names,
pub record FreeBytes (names : List ℕ) (D' : ℕ) (table table' : List ℕ) : Type 0 where
  pub is : (i : ℕ) → i < table_names → get_or table' i 0 ≡ turn table_names 128 D' (get_or names i 0)
  pub len : length table' ≡ length table

-- and of the binders, put behind them from the innermost outward.
pub record BoundBytes (names : List ℕ) (D D' : ℕ) (table table' : List ℕ) : Type 0 where
  pub is : (j : ℕ) → j < D → get_or table' (table_names + j) 0 ≡ turn table_names 128 D' (get_or names (table_names + (D - 1 - j)) 0)
  pub kept : (i : ℕ) → i < table_names → get_or table' i 0 ≡ get_or table i 0

-- The table for renaming, which has the binders from the innermost outward.
unfoldable pub TableIs : List ℕ → ℕ → ℕ → List ℕ → Type 0
TableIs names D D' r = (i : ℕ) → i < table_names + D → get_or r i 0 ≡ turn table_names 128 D' (get_or names (turn table_names table_names D i) 0)
