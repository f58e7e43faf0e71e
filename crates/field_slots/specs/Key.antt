-- A situation as it stands in the work area, and what reading, writing and finding one promise.
use Rattle.std.specs.Prelude.{Option, Some, None, ◌≡◌, Bool, true, false, List, [], ◌∷◌, ◌++◌, map, ℕ, ◌*◌, ◌/◌, ◌%◌, ◌^◌, ◌<◌, ◌≤◌, length, get_or, take, drop}
use Rattle.std.proofs.lemmas.List.Edits.{sets}
use Rattle.calculus.specs.Cond.{Pairs}
use Rattle.calculus.specs.Term.{Term}
use Rattle.terms.specs.Encoding.{encode}
use Rattle.terms.specs.Limits.{longest_term}
use Rattle.steps.specs.Listed.{names_from}
use Rattle.field.specs.Situation.{Situation}
use Rattle.field_pairs.specs.Slot.{part_bytes, flags_of, octet, packed, key_of, key_bytes, slot_bytes}

-- The key of s stands at `at`, and its parts fit.
pub record SituationAt (area : List ℕ) (at : ℕ) (s : Situation) : Type 0 where
  pub rest : List ℕ
  pub there : drop at area ≡ key_of s ++ rest
  pub first : length (encode 0 s.first) ≤ longest_term
  pub second : length (encode 0 s.second) ≤ longest_term

-- a part, its length first, filled with 0
unfoldable pub PartIs : List ℕ → ℕ → List ℕ → Type 0
PartIs area at r = (P : Term) (rest : List ℕ) → drop at area ≡ part_bytes P ++ rest → r ≡ encode 0 P

unfoldable pub FirstPartIs : List ℕ → ℕ → List ℕ → Type 0
FirstPartIs area at r = (s : Situation) → SituationAt area at s → r ≡ encode 0 s.first

unfoldable pub SecondPartIs : List ℕ → ℕ → List ℕ → Type 0
SecondPartIs area at r = (s : Situation) → SituationAt area at s → r ≡ encode 0 s.second

unfoldable pub ApartFlagsIs : List ℕ → ℕ → List ℕ → Type 0
ApartFlagsIs area at r = (s : Situation) → SituationAt area at s → r ≡ flags_of s.apart

-- bit j of a byte, and the eight of them
unfoldable pub bit_at : ℕ → ℕ → ℕ
bit_at b j = b / 2 ^ j % 2

unfoldable pub bits_of : ℕ → List ℕ
bits_of b = map (bit_at b) (names_from 0 8)

-- a flag as a bit, whatever stands there
pub record BitIs (flags : List ℕ) (i r : ℕ) : Type 0 where
  pub small : r ≤ 1
  pub is : get_or flags i 0 ≤ 1 → r ≡ get_or flags i 0

unfoldable pub OctetIs : List ℕ → ℕ → ℕ → Type 0
OctetIs flags k r = (D : Pairs) → flags ≡ flags_of D → r ≡ octet flags k

unfoldable pub Packs : List ℕ → List ℕ → ℕ → List ℕ → Type 0
Packs flags out put out' = (D : Pairs) → flags ≡ flags_of D → out' ≡ sets out put (packed (flags_of D))

unfoldable pub Unpacks : List ℕ → ℕ → List ℕ → Type 0
Unpacks area at flags' = (D : Pairs) (rest : List ℕ) → drop at area ≡ packed (flags_of D) ++ rest → flags' ≡ flags_of D

-- Slot i is given the key, and the byte behind it is 0: its situation is left.
unfoldable pub slot_with : List ℕ → ℕ → List ℕ → List ℕ
slot_with work i key = sets work (slot_bytes * i) (take key_bytes key ++ (0 ∷ []))

-- the bytes of slot i that say which situation it holds
unfoldable pub key_at : List ℕ → ℕ → List ℕ
key_at area i = take key_bytes (drop (slot_bytes * i) area)

pub record SameKeyIs (area : List ℕ) (at : ℕ) (key : List ℕ) (r : Bool) : Type 0 where
  pub same : r ≡ true → take key_bytes (drop at area) ≡ take key_bytes key
  pub other : r ≡ false → take key_bytes (drop at area) ≡ take key_bytes key → ⊥

-- A slot with the key, among the first `count`, or none of them has it. Each situation stands once in the field, so which one is not said.
unfoldable pub FoundIs : List ℕ → ℕ → List ℕ → Option ℕ → Type 0
FoundIs area count key (Some i) = (i < count) × (key_at area i ≡ take key_bytes key)
FoundIs area count key None = (i : ℕ) → i < count → key_at area i ≡ take key_bytes key → ⊥
