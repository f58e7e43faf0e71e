-- A condition on the names of a call, as a partition of their places: each place has the number of its class, classes numbered in the order in which
-- they come. Partitions of n places in this form have the numbers below `continuations n 0`, in their order.
use Rattle.std.specs.Prelude.{◌⊎◌, ◌≡◌, cond, List, [], ◌∷◌, map, ℕ, zero, suc, min, max, ◌+◌, ◌-◌, ◌*◌, ◌<◌, ◌≤◌, eqb, ltb, length, get_or}

-- a definition has at most so many names
abbrev pub most_places : ℕ
most_places = 8

-- the partitions of so many places
abbrev pub most_partitions : ℕ
most_partitions = 4140

-- in how many ways r further places can be given classes behind m classes: each one of the m, or a new one
unfoldable pub continuations : ℕ → ℕ → ℕ
continuations zero m = 1
continuations (suc r) m = m * continuations r m + continuations r (suc m)

-- the classes of the places behind m classes: each is one that has come, or the next one
abbrev pub Growing : ℕ → List ℕ → Type 0
Growing m [] = Unit
Growing m (c ∷ v) = (c ≤ m) × Growing (max m (suc c)) v

-- the number of such a list among all of its length
unfoldable pub rank_from : ℕ → List ℕ → ℕ
rank_from m [] = 0
rank_from m (c ∷ v) = c * continuations (length v) m + rank_from (max m (suc c)) v

abbrev pub rank : List ℕ → ℕ
rank v = rank_from 0 v

-- v is a partition of n places.
pub record Partition (n : ℕ) (v : List ℕ) : Type 0 where
  pub size : length v ≡ n
  pub growing : Growing 0 v

-- every place in a class of its own, behind m classes
unfoldable pub apart_from : ℕ → ℕ → List ℕ
apart_from m zero = []
apart_from m (suc r) = m ∷ apart_from (suc m) r

-- Class c once classes a and b are one: the greater goes, and those behind it move up.
unfoldable pub merged_class : ℕ → ℕ → ℕ → ℕ
merged_class a b c = cond (eqb a b) c (cond (eqb c (max a b)) (min a b) (cond (ltb (max a b) c) (c - 1) c))

-- the same, case by case
abbrev pub Cases : ℕ → ℕ → ℕ → ℕ → Type 0
Cases a b c r = ((c ≡ max a b) × (r ≡ min a b)) ⊎ ((max a b < c) × (r ≡ c - 1)) ⊎ ((c < max a b) × (r ≡ c))

-- the partition in which the classes of places i and j are one
unfoldable pub merged_at : List ℕ → ℕ → ℕ → List ℕ
merged_at v i j = map (merged_class (get_or v i 0) (get_or v j 0)) v

-- the first n entries are v
unfoldable pub Begins : List ℕ → ℕ → List ℕ → Type 0
Begins l n v = (j : ℕ) → j < n → get_or l j 0 ≡ get_or v j 0

-- what a class adds to the number
pub record ClassWeightIs (c rest m r : ℕ) : Type 0 where
  pub few : r ≤ 255 * most_partitions
  pub is : r ≡ c * continuations rest m

-- the class of a place by the number left, where a class takes `size` numbers
pub record ClassIs (left size m r : ℕ) : Type 0 where
  pub few : r ≤ m
  pub below : r * size ≤ left
  pub is : (c y : ℕ) → left ≡ c * size + y → c ≤ m → (c < m → y < size) → r ≡ c

-- r is the number of the partition that the first n entries are
unfoldable pub RankIs : List ℕ → ℕ → ℕ → Type 0
RankIs l n r = (v : List ℕ) → Partition n v → Begins l n v → r ≡ rank v

-- the first n entries are the partition of this number
unfoldable pub UnrankIs : ℕ → ℕ → List ℕ → Type 0
UnrankIs row n l = (v : List ℕ) → Partition n v → rank v ≡ row → Begins l n v

-- the first n entries with classes a and b merged
unfoldable pub MergeIs : List ℕ → ℕ → ℕ → ℕ → List ℕ → Type 0
MergeIs l n a b r = (j : ℕ) → j < n → get_or r j 0 ≡ merged_class a b (get_or l j 0)

-- r is the number of the partition of number `row` with the classes of places i and j merged
unfoldable pub MergedRowIs : ℕ → ℕ → ℕ → ℕ → ℕ → Type 0
MergedRowIs row n i j r = (v : List ℕ) → Partition n v → rank v ≡ row → r ≡ rank (merged_at v i j)
