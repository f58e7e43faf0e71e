-- A situation in the work area: 256 bytes. Each part's length and the part filled with 0 to 112, one bit for each pair of names, and bytes for
-- the search's own use.
use Rattle.std.specs.Prelude.{Bool, true, false, List, ◌∷◌, ◌++◌, map, ◌≡◌, ℕ, ◌+◌, ◌-◌, ◌*◌, ◌/◌, eqb, length, get_or, replicate}
use Rattle.calculus.specs.Cond.{Pairs}
use Rattle.calculus.specs.Term.{Term}
use Rattle.terms.specs.Encoding.{encode}
use Rattle.terms.specs.Limits.{name_count, longest_term}
use Rattle.terms.specs.Operations.{holds_apart}
use Rattle.steps.specs.Listed.{names_from}
pub use Rattle.field.specs.Setting.{slot_bytes}
use Rattle.field.specs.Situation.{Situation, all_pairs}
use Rattle.field_pairs.specs.PairNumbers.{pair_count}

-- a part, its length first, filled with 0
unfoldable pub part_bytes : Term → List ℕ
part_bytes P = let bs = encode 0 P in length bs ∷ (bs ++ replicate (longest_term - length bs) 0)

-- how many bytes these are
abbrev pub part_room : ℕ
part_room = 1 + longest_term

unfoldable pub flag : Bool → ℕ
flag true = 1
flag false = 0

-- one flag for each pair of names
unfoldable pub flags_of : Pairs → List ℕ
flags_of D = map (λ p. flag (holds_apart D p.0 p.1)) (all_pairs name_count)

-- eight flags in a byte, the lowest bit first
unfoldable pub octet : List ℕ → ℕ → ℕ
octet fs k =
    let at : ℕ → ℕ = λ j. get_or fs (8 * k + j) 0 in
    at 0 + 2 * at 1 + 4 * at 2 + 8 * at 3 + 16 * at 4 + 32 * at 5 + 64 * at 6 + 128 * at 7

abbrev pub octets : ℕ
octets = pair_count / 8

unfoldable pub packed : List ℕ → List ℕ
packed fs = map (octet fs) (names_from 0 octets)

-- the bytes that say which situation it is
unfoldable pub key_of : Situation → List ℕ
key_of s = part_bytes s.first ++ (part_bytes s.second ++ packed (flags_of s.apart))

-- how many these are: two parts behind their lengths, and the pairs
abbrev pub key_bytes : ℕ
key_bytes = part_room + part_room + octets

-- The byte of slot i behind its key: 0 while the situation is left, 1 once it is struck out.
abbrev pub struck_at : ℕ → ℕ
struck_at i = slot_bytes * i + key_bytes

-- Behind it the head of a bucket and a link of a chain, two bytes each, and from `note_byte` on noted slots (crate field_slots).
abbrev pub head_byte : ℕ
head_byte = key_bytes + 1

abbrev pub link_byte : ℕ
link_byte = head_byte + 2

abbrev pub note_byte : ℕ
note_byte = link_byte + 2

unfoldable pub LeftAtIs : List ℕ → ℕ → Bool → Type 0
LeftAtIs work i r = r ≡ eqb (get_or work (struck_at i) 0) 0
