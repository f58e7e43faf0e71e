-- What is noted in a slot (Noted, of crate field): before the passes of strike-out, what exploration noted, each the only answer to a step; then what
-- a situation that survives relies on. Where the first number is 0, nothing is noted.
use Rattle.std.specs.Prelude.{Bool, true, List, ◌≡◌, ℕ, ◌+◌, ◌-◌, ◌<◌, ◌≤◌, get_or}
use Rattle.field_slots.specs.Noted.{noted_count, note_at, SpareOnly, OtherNotes}
use Rattle.field_pairs.specs.Slot.{struck_at}
use Rattle.verdict_notes.specs.declared.relied.Relied.{Relied}

-- slot j is noted in slot i
unfoldable pub NotedIn : List ℕ → ℕ → ℕ → Type 0
NotedIn work i j = (k : ℕ) × (k < noted_count) × (note_at work i k ≡ j + 1)

-- slot j is among those relied on
unfoldable pub Has : Relied → ℕ → Type 0
Has r j = (k : ℕ) × (k < r.count) × (get_or r.slots k 0 ≡ j + 1)

-- they were not more than places
abbrev pub Few : Relied → Type 0
Few r = 0 < get_or r.slots 0 0

-- the places that are used are there, every number has two bytes, and while a place is free nothing was given up
pub record Numbers (r : Relied) : Type 0 where
  pub used : r.count ≤ noted_count
  pub free : r.count < noted_count → Few r
  pub small : (k : ℕ) → k < noted_count → get_or r.slots k 0 < 65536

-- what r relies on, r' relies on
pub record Within (r r' : Relied) : Type 0 where
  pub few : Few r' → Few r
  pub has : Few r' → (j : ℕ) → Has r j → Has r' j

pub record WithIs (r : Relied) (j : ℕ) (r' : Relied) : Type 0 where
  pub numbers : Numbers r'
  pub more : Within r r'
  pub has : Few r' → Has r' j

pub record NoteIs (work : List ℕ) (i : ℕ) (r : Relied) (work' : List ℕ) : Type 0 where
  pub spare : SpareOnly (i + 1) work work'
  pub here : (k : ℕ) → k < noted_count → note_at work' i k ≡ get_or r.slots k 0
  pub others : OtherNotes i work work'

pub record ClearsNotes (count : ℕ) (work work' : List ℕ) : Type 0 where
  pub spare : SpareOnly count work work'
  pub none : (i : ℕ) → i < count → note_at work' i 0 ≡ 0

-- All that is noted in slot i is left.
unfoldable pub ReliesOnLeftIs : List ℕ → ℕ → ℕ → Bool → Type 0
ReliesOnLeftIs work count i r =
    r ≡ true → (k : ℕ) → k < noted_count → (0 < note_at work i k) × (note_at work i k ≤ count) × (get_or work (struck_at (note_at work i k - 1)) 0 ≡ 0)

-- A test that holds says that a situation that is noted in slot i is struck out.
unfoldable pub SoleStruckIs : List ℕ → ℕ → ℕ → Bool → Type 0
SoleStruckIs work count i r =
    r ≡ true → (k : ℕ) × (j : ℕ) × (k < noted_count) × (note_at work i k ≡ j + 1) × (j < count) × (get_or work (struck_at j) 0 ≡ 0 → ⊥)
