-- Finding a situation in the work area without going over all of it. The slots are spread over as many buckets as there may be slots. The two
-- bytes at `head_byte` of slot b are the head of bucket b, the last slot in it; the two at `link_byte` of slot i are the slot before i in its bucket. Both are numbers
-- of slots plus 1. Where a bucket has no slot, or none before i, they say nothing, so that nothing need be emptied at first: a search that goes on
-- there comes to slots of smaller and smaller numbers, or to a number that is none, and finds no key that is not there.
use Rattle.std.specs.Prelude.{Option, Some, ◌≡◌, cond, List, ℕ, zero, suc, ◌+◌, ◌-◌, ◌*◌, ◌/◌, ◌%◌, ◌<◌, eqb, length, get_or, drop, set}
use Rattle.terms_bytes.specs.FieldPlaces.{size_at}
use Rattle.field_slots.specs.Key.{key_at, FoundIs}
use Rattle.field_slots.specs.Noted.{noted_count, note_at}
use Rattle.field_pairs.specs.Slot.{slot_bytes, part_room, key_bytes, head_byte, link_byte}

-- four bytes as a number
unfoldable pub word_at : List ℕ → ℕ → ℕ
word_at key at = get_or key at 0 + 256 * get_or key (at + 1) 0 + 65536 * get_or key (at + 2) 0 + 16777216 * get_or key (at + 3) 0

-- a number that is the same modulo the prime 4294967291, and small
abbrev pub folded : ℕ → ℕ
folded x = x % 4294967296 + 5 * (x / 4294967296)

-- sixteen bytes taken into a number, by multipliers whose bits are well mixed
unfoldable pub mixed : ℕ → List ℕ → ℕ → ℕ
mixed h key at =
    folded (h * 252097829 + word_at key at * 261828187 + word_at key (at + 4) * 141421387 + word_at key (at + 8) * 173205089 + word_at key (at + 12) * 223606807)

-- n times sixteen bytes of a key taken into h, from those of number i on
unfoldable pub rounds : ℕ → List ℕ → ℕ → ℕ → ℕ
rounds h key i zero = h
rounds h key i (suc n) = mixed (rounds h key i n) key (16 * (i + n))

-- how many times sixteen bytes reach byte n of a part: at most 8, for no part is longer than 112
abbrev pub rounds_to : ℕ → ℕ
rounds_to n = n % 128 / 16 + 1

-- A key in a number: its last byte, of each part the bytes up to its end, for what follows is filling, and the pairs. The length of the first part
-- is byte 0, that of the second stands in the sixteen bytes of number 7; the pairs begin in those of number 14, and all of them are taken.
abbrev pub pair_rounds : ℕ
pair_rounds = (key_bytes - 16 * 14) / 16

unfoldable pub spread : List ℕ → ℕ
spread key =
    let first = rounds (get_or key (key_bytes - 1) 0) key 0 (rounds_to (get_or key 0 0)) in
    rounds (rounds first key 7 (rounds_to (get_or key part_room 0 + 1))) key 14 pair_rounds

pub record WordIs (key : List ℕ) (at r : ℕ) : Type 0 where
  pub is : r ≡ word_at key at
  pub below : r < 4294967296

pub record MixIs (h : ℕ) (key : List ℕ) (at r : ℕ) : Type 0 where
  pub is : r ≡ mixed h key at
  pub below : r < 25769803776

pub record RoundsIs (h : ℕ) (key : List ℕ) (i n r : ℕ) : Type 0 where
  pub is : r ≡ rounds h key i n
  pub below : r < 25769803776

-- the bucket of a key
unfoldable pub bucket_of : ℕ → List ℕ → ℕ
bucket_of capacity key = spread key % capacity

unfoldable pub bucket_at : ℕ → List ℕ → ℕ → ℕ
bucket_at capacity work i = bucket_of capacity (key_at work i)

pub record BucketIs (capacity : ℕ) (key : List ℕ) (r : ℕ) : Type 0 where
  pub is : r ≡ bucket_of capacity key
  pub within : r < capacity

-- where the head of bucket b and the link of slot i stand, and what they are
abbrev pub head_place : ℕ → ℕ
head_place b = slot_bytes * b + head_byte

abbrev pub link_place : ℕ → ℕ
link_place i = slot_bytes * i + link_byte

abbrev pub head_at : List ℕ → ℕ → ℕ
head_at work b = size_at work (head_place b)

abbrev pub next_at : List ℕ → ℕ → ℕ
next_at work i = size_at work (link_place i)

-- a number in two bytes, the greater half first
unfoldable pub put_number : List ℕ → ℕ → ℕ → List ℕ
put_number work at n = set (set work at (n / 256)) (at + 1) (n % 256)

-- one more than the greatest number below n at which f is b, or 0
unfoldable pub last_with : (ℕ → ℕ) → ℕ → ℕ → ℕ
last_with f zero b = 0
last_with f (suc n) b = cond (eqb (f n) b) (suc n) (last_with f n b)

unfoldable pub last_in : ℕ → List ℕ → ℕ → ℕ → ℕ
last_in capacity work n b = last_with (bucket_at capacity work) n b

-- Heads and links are those of the first `count` slots, where there is one.
pub record Chained (capacity : ℕ) (work : List ℕ) (count : ℕ) : Type 0 where
  pub heads : (b : ℕ) → b < capacity → (j : ℕ) → last_in capacity work count b ≡ suc j → head_at work b ≡ suc j
  pub nexts : (i : ℕ) → i < count → (j : ℕ) → last_in capacity work i (bucket_at capacity work i) ≡ suc j → next_at work i ≡ suc j

-- The keys, the bytes behind them and what lies behind the slots are as they were.
pub record KeepsKeys (capacity : ℕ) (work work' : List ℕ) : Type 0 where
  pub len : length work' ≡ length work
  pub slots : (i j : ℕ) → j < head_byte → get_or work' (slot_bytes * i + j) 0 ≡ get_or work (slot_bytes * i + j) 0
  pub rest : drop (slot_bytes * capacity) work' ≡ drop (slot_bytes * capacity) work

-- Slot i comes behind those chained already.
pub record LinkIs (capacity : ℕ) (work : List ℕ) (i : ℕ) (work' : List ℕ) : Type 0 where
  pub chained : Chained capacity work i → Chained capacity work' (i + 1)
  pub keeps : KeepsKeys capacity work work'
  pub notes : (j k : ℕ) → k < noted_count → note_at work' j k ≡ note_at work j k

-- The slot with the key, where the slots are chained; one of them in any case.
pub record FindsIn (capacity : ℕ) (work : List ℕ) (count : ℕ) (key : List ℕ) (r : Option ℕ) : Type 0 where
  pub within : (i : ℕ) → r ≡ Some i → i < count
  pub is : Chained capacity work count → FoundIs work count key r
