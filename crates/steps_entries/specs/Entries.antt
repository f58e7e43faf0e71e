-- The listed steps as they stand in an area while the list is made: entries of one size, and an index that says their ascending byte order.
use Rattle.std.specs.Prelude.{Bool, true, false, List, [], map, ◌≡◌, length, get_or, take, drop}
use Prim.Native.Nat.{ℕ, ◌+◌, ◌*◌, ◌<◌, ◌≤◌, Ordering}
use Rattle.terms.specs.Limits.{longest_term}
use Rattle.calculus.specs.Lists.{All}
use Rattle.steps.specs.Derived.{Ascending}
use Rattle.steps.specs.Limits.{most_steps, step_bytes}
use Rattle.steps.specs.Listed.{ListedStep, bytes}
use Rattle.steps.specs.Listing.{order, insert}

-- A list is made in an area that has, behind as many steps, an index: a byte for each.
abbrev pub index_place : ℕ
index_place = step_bytes * most_steps

abbrev pub list_room : ℕ
list_room = index_place + most_steps

-- the entry that begins at a place of the area
unfoldable pub entry_from : List ℕ → ℕ → List ℕ
entry_from area at = take step_bytes (drop at area)

-- An entry stays where it was put. The index says which of them is the i-th in order, by its number,
abbrev pub place_at : List ℕ → ℕ → ℕ
place_at area i = get_or area (index_place + i) 0

-- and so that entry.
unfoldable pub entry_at : List ℕ → ℕ → List ℕ
entry_at area i = entry_from area (place_at area i * step_bytes)

unfoldable pub is_before : Ordering → Bool
is_before Ordering.lt = true
is_before Ordering.eq = false
is_before Ordering.gt = false

-- byte order as a test
unfoldable pub comes_before : List ℕ → List ℕ → Bool
comes_before xs ys = is_before (order xs ys)

-- the n bytes at two places are alike, and that as a test
abbrev pub Alike : List ℕ → ℕ → List ℕ → ℕ → ℕ → Type 0
Alike a i b j n = (k : ℕ) → k < n → get_or a (i + k) 0 ≡ get_or b (j + k) 0

abbrev pub AlikeIs : List ℕ → ℕ → List ℕ → ℕ → ℕ → Bool → Type 0
AlikeIs a i b j n r = (r ≡ true → Alike a i b j n) × (Alike a i b j n → r ≡ true)

-- the first `count` entries in order ascend
unfoldable pub EntriesAscend : List ℕ → ℕ → Type 0
EntriesAscend area count = (i j : ℕ) → i < j → j < count → comes_before (entry_at area i) (entry_at area j) ≡ true

-- Where an entry belongs among `count` that ascend: behind those that come before it.
pub record PlaceIs (area : List ℕ) (count : ℕ) (entry : List ℕ) (r : ℕ) : Type 0 where
  pub within : r ≤ count
  pub behind : EntriesAscend area count → (i : ℕ) → i < r → comes_before (entry_at area i) entry ≡ true
  pub ahead : EntriesAscend area count → (i : ℕ) → r ≤ i → i < count → comes_before (entry_at area i) entry ≡ false

-- every step takes a whole entry
abbrev pub Sized : List ListedStep → Type 0
Sized ss = All (λ s. length (bytes longest_term s) ≡ step_bytes) ss

-- the bytes of the step of a number
abbrev pub step_at : List ListedStep → ℕ → List ℕ
step_at ss i = get_or (map (bytes longest_term) ss) i []

-- The entries of the area, in the order of the index, are the steps; there are no others before the last of them.
pub record Indexed (area : List ℕ) (ss : List ListedStep) : Type 0 where
  pub among : (i : ℕ) → i < length ss → place_at area i < length ss
  pub entries : (i : ℕ) → i < length ss → entry_at area i ≡ step_at ss i

-- A step put into the list of those that stand in the area. The answer is the new number of steps; where that passes the limit, the area is not
-- determined.
unfoldable pub InsertIs : List ℕ → ℕ → List ℕ → ℕ → List ℕ → Type 0
InsertIs area count entry r area' =
    (s : ListedStep) (ss : List ListedStep)
    → entry ≡ bytes longest_term s
    → Ascending longest_term ss
    → length ss ≡ count
    → Indexed area ss
    → (r ≡ length (insert longest_term s ss))
    × (r ≤ most_steps → Indexed area' (insert longest_term s ss))
