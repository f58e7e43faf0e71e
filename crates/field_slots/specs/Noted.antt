-- Five numbers of slots plus 1, two bytes each, from `note_byte` of a slot on; 0 stands for none. While exploration goes on, what is noted in slot i
-- are situations that are the only answer to a step of situation i. Strike-out (crate verdict) has its own notes there later.
use Rattle.std.specs.Prelude.{List, ◌⊎◌, ◌≡◌, ℕ, ◌+◌, ◌*◌, ◌<◌, ◌≤◌, length, get_or, drop}
use Rattle.terms_bytes.specs.FieldPlaces.{size_at}
use Rattle.calculus.specs.Lists.{◌∈◌, All}
use Rattle.field.specs.Situation.{Situation}
use Rattle.field_pairs.specs.Slot.{slot_bytes, note_byte}

abbrev pub noted_count : ℕ
noted_count = 5

abbrev pub note_place : ℕ → ℕ → ℕ
note_place i k = slot_bytes * i + note_byte + 2 * k

abbrev pub note_at : List ℕ → ℕ → ℕ → ℕ
note_at work i k = size_at work (note_place i k)

-- The lengths, the bytes of each slot before its notes and what lies behind the slots are as they were.
pub record SpareOnly (count : ℕ) (work work' : List ℕ) : Type 0 where
  pub len : length work' ≡ length work
  pub slots : (i j : ℕ) → j < note_byte → get_or work' (slot_bytes * i + j) 0 ≡ get_or work (slot_bytes * i + j) 0
  pub rest : (k : ℕ) → count ≤ k → drop (slot_bytes * k) work' ≡ drop (slot_bytes * k) work

-- The notes in other slots than i are as they were.
abbrev pub OtherNotes : ℕ → List ℕ → List ℕ → Type 0
OtherNotes i work work' = (j : ℕ) → (j ≡ i → ⊥) → (k : ℕ) → k < noted_count → note_at work' j k ≡ note_at work j k

-- Nothing is noted in slot i.
pub record ClearsSlot (work : List ℕ) (i : ℕ) (work' : List ℕ) : Type 0 where
  pub spare : SpareOnly (i + 1) work work'
  pub none : (k : ℕ) → k < noted_count → note_at work' i k ≡ 0
  pub others : OtherNotes i work work'

-- The number n is noted in slot i, if there is room.
pub record NotesOne (work : List ℕ) (i n : ℕ) (work' : List ℕ) : Type 0 where
  pub spare : SpareOnly (i + 1) work work'
  pub here : (k : ℕ) → k < noted_count → (note_at work' i k ≡ note_at work i k) ⊎ (note_at work' i k ≡ n)
  pub others : OtherNotes i work work'

-- The situation of number j is t.
abbrev pub Stands : List Situation → ℕ → Situation → Type 0
Stands ks j t = (j < length ks) × ((d : Situation) → get_or ks j d ≡ t)

-- Where a number is noted, all answers to one of the moves ms lead to the situation in that slot.
unfoldable pub SoleIn : List Situation → List (List Situation) → ℕ → Type 0
SoleIn ks ms n = (j : ℕ) → n ≡ j + 1 → (w : List Situation) × (w ∈ ms) × All (Stands ks j) w
