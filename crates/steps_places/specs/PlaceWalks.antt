-- What the walk of a body puts into the table of places (document 02, request 2026-01): its unprefixed calls, each beneath the matches above it.
use Rattle.std.specs.Prelude.{Option, Some, None, Bool, true, false, List, ◌++◌, reverse, ◌⊎◌, ◌≡◌, ℕ, ◌+◌, ◌-◌, ◌^◌, ◌<◌, ◌≤◌, length, get_or, drop}
use Rattle.calculus.specs.Cond.{Cond}
use Rattle.calculus.specs.Definitions.{Defs, opened}
use Rattle.calculus.specs.Free.{In}
use Rattle.calculus.specs.Term.{Term, mat}
use Rattle.calls.specs.Reach.{Bare, Reached}
use Rattle.terms.specs.Encoding.{encode, InScope}
use Rattle.terms.specs.Question.{Question}
use Rattle.steps_partitions.specs.Partition.{continuations, Partition, rank, merged_at}
use Rattle.steps_reach.specs.CallTable.{most_calls, RowIs, Held}
use Rattle.steps_reach.specs.Walks.{Defines, Reaches}
use Rattle.steps_places.specs.PlaceTable.{bit, Has, slot_of, along, Means, PlacesAre}

-- bit j set, and no other changed
pub record WithBit (x j r : ℕ) : Type 0 where
  pub set : bit r j ≡ 1
  pub kept : (i : ℕ) → bit x i ≡ 1 → bit r i ≡ 1
  pub only : (i : ℕ) → bit r i ≡ 1 → (i ≡ j) ⊎ (bit x i ≡ 1)
  pub grows : x ≤ r
  pub more : ¬ (bit x j ≡ 1) → x < r
  pub fits : x < 2 ^ 64 → r < 2 ^ 64

-- x has bit j and y has not
pub record PendingIs (x y j : ℕ) (r : Bool) : Type 0 where
  pub there : r ≡ true → (bit x j ≡ 1) × (¬ (bit y j ≡ 1))
  pub done : r ≡ false → bit x j ≡ 1 → bit y j ≡ 1

-- the first bit of x that y has not, if there is one
pub record NextIs (x y : ℕ) (r : Option ℕ) : Type 0 where
  pub pending : (j : ℕ) → r ≡ Some j → (j < most_calls) × (bit x j ≡ 1) × (¬ (bit y j ≡ 1))
  pub none : r ≡ None → (j : ℕ) → j < most_calls → bit x j ≡ 1 → bit y j ≡ 1

-- the names of the first call are those of the first row
unfoldable pub FirstNames : List ℕ → ℕ → List ℕ → Type 0
FirstNames t count xs = (length xs ≡ count) × ((j : ℕ) → j < count → get_or t (1 + j) 0 ≡ get_or xs j 0)

unfoldable pub SlotIs : List ℕ → ℕ → ℕ → ℕ → Type 0
SlotIs t count name r = (xs : List ℕ) → FirstNames t count xs → r ≡ slot_of xs name

-- the first of those names that is this one, if one is
pub record SlotFound (t : List ℕ) (count name : ℕ) (r : Option ℕ) : Type 0 where
  pub some : (j : ℕ) → r ≡ Some j → (j < count) × SlotIs t count name j
  pub none : r ≡ None → SlotIs t count name count

-- the first row that has the call, if one has
pub record CallNumberIs (t : List ℕ) (k : ℕ) (names : List ℕ) (n : ℕ) (r : Option ℕ) : Type 0 where
  pub held : (i : ℕ) → r ≡ Some i → (i < most_calls) × Held t i k names n
  pub absent : r ≡ None → (i : ℕ) → i < most_calls → ¬ Held t i k names n

-- P stands at `at` in the body of the call of number j, whose names ys are among those of the first call; its unprefixed calls have rows.
pub record Standing (q : Question) (s : List ℕ) (at j : ℕ) (t : List ℕ) (count : ℕ) (xs ys : List ℕ) (P : Term) : Type 0 where
  pub scope : InScope 0 q.arities (length ys) P
  pub rest : List ℕ
  pub bytes : drop at s ≡ encode (length ys) P ++ rest
  pub definition : ℕ
  pub arity : length ys ≡ get_or q.arities definition 0
  pub called : RowIs t j (definition, ys)
  pub first : FirstNames t count xs
  pub within : (i : ℕ) → i < length ys → slot_of xs (get_or (reverse ys) i 0) < count
  pub listed : (C : Cond) (l : ℕ) (zs : List ℕ) → Bare (opened ys P) C l zs → (i : ℕ) × (i < most_calls) × RowIs t i (l, zs)

-- the row of the partition behind a match
unfoldable pub MatchedIs : List ℕ → List ℕ → ℕ → ℕ → ℕ → ℕ → List ℕ → ℕ → Type 0
MatchedIs question s at j row count t r = (q : Question) (Δ : Defs) → Defines question q Δ → (xs ys v : List ℕ) (a b : ℕ) (P : Term)
    → Standing q s at j t count xs ys (mat a b P) → Partition count v → rank v ≡ row
    → r ≡ rank (merged_at v (slot_of xs (get_or (reverse ys) a 0)) (slot_of xs (get_or (reverse ys) b 0)))

-- an unprefixed call of P, beneath matches, in row i
pub record Onto (xs t v : List ℕ) (P : Term) (r i : ℕ) : Type 0 where
  pub condition : Cond
  pub definition : ℕ
  pub names : List ℕ
  pub bare : Bare P condition definition names
  pub row : RowIs t i (definition, names)
  pub number : r ≡ rank (along xs v condition)

-- The unprefixed calls of P are put into the table, from the partition v on.
pub record Adds (xs t v : List ℕ) (P : Term) (f f' : List ℕ) : Type 0 where
  pub all : (C : Cond) (l : ℕ) (zs : List ℕ) → Bare P C l zs → (i : ℕ) × (i < most_calls) × RowIs t i (l, zs) × Has f' (rank (along xs v C)) i
  pub only : (r i : ℕ) → Has f' r i → Has f r i ⊎ Onto xs t v P r i

pub record FindTermIs (question s : List ℕ) (at j row count : ℕ) (t f f' : List ℕ) : Type 0 where
  pub kept : (r i : ℕ) → Has f r i → Has f' r i
  pub is : (q : Question) (Δ : Defs) → Defines question q Δ → (xs ys v : List ℕ) (P : Term) → Standing q s at j t count xs ys P
      → Partition count v → rank v ≡ row → Adds xs t v (opened ys P) f f'

-- The first call k⟨xs⟩, with the table of the calls that it reaches.
pub record Scene (question : List ℕ) (q : Question) (Δ : Defs) (k : ℕ) (xs t : List ℕ) (count : ℕ) : Type 0 where
  pub defines : Defines question q Δ
  pub names : length xs ≡ count
  pub there : k < length q.arities
  pub sized : length xs ≡ Δ.arity k
  pub size : ℕ
  pub few : size ≤ most_calls
  pub reaches : Reaches Δ k xs t size

-- the call of number j is reached under a condition that merges what v does
pub record Reachable (q : Question) (Δ : Defs) (k : ℕ) (xs t v : List ℕ) (j : ℕ) : Type 0 where
  pub definition : ℕ
  pub there : definition < length q.arities
  pub names : List ℕ
  pub within : (x : ℕ) → In x names → In x xs
  pub row : RowIs t j (definition, names)
  pub sized : length names ≡ Δ.arity definition
  pub condition : Cond
  pub reached : Reached Δ k xs condition definition names
  pub means : Means xs v condition

-- Every bit of the table stands for a place.
abbrev pub SoundTable : Question → Defs → ℕ → List ℕ → List ℕ → ℕ → List ℕ → Type 0
SoundTable q Δ k xs t count f = (r j : ℕ) → r < continuations count 0 → j < most_calls → Has f r j
    → (v : List ℕ) × Partition count v × (rank v ≡ r) × Reachable q Δ k xs t v j

-- What the place in row r and of number j goes on to is in the table.
abbrev pub ClosedAt : Defs → List ℕ → List ℕ → ℕ → List ℕ → ℕ → ℕ → Type 0
ClosedAt Δ xs t count f r j = (v : List ℕ) → Partition count v → rank v ≡ r → (l : ℕ) (ys : List ℕ) → RowIs t j (l, ys) → length ys ≡ Δ.arity l
    → (C : Cond) (m : ℕ) (zs : List ℕ) → Bare (opened ys (Δ.body l)) C m zs → (i : ℕ) × (i < most_calls) × RowIs t i (m, zs) × Has f (rank (along xs v C)) i

pub record OpenPlaceIs (question : List ℕ) (j row count : ℕ) (t f f' : List ℕ) : Type 0 where
  pub kept : (r i : ℕ) → Has f r i → Has f' r i
  pub is : (q : Question) (Δ : Defs) (k : ℕ) (xs v : List ℕ) → Scene question q Δ k xs t count → Partition count v → rank v ≡ row
      → (R : Reachable q Δ k xs t v j) → Adds xs t v (opened R.names (Δ.body R.definition)) f f'

-- the table once row r is closed: rows above it stay
pub record RowClosed (q : Question) (Δ : Defs) (k : ℕ) (xs t : List ℕ) (count row : ℕ) (f f' : List ℕ) : Type 0 where
  pub sound : SoundTable q Δ k xs t count f'
  pub above : (r i : ℕ) → row < r → Has f' r i → Has f r i
  pub closed : (j : ℕ) → j < most_calls → Has f' row j → ClosedAt Δ xs t count f' row j

pub record CloseRowIs (question : List ℕ) (row count : ℕ) (t f f' : List ℕ) : Type 0 where
  pub kept : (r i : ℕ) → Has f r i → Has f' r i
  pub is : (q : Question) (Δ : Defs) (k : ℕ) (xs : List ℕ) → Scene question q Δ k xs t count → SoundTable q Δ k xs t count f
      → RowClosed q Δ k xs t count row f f'

-- the first rows are empty
unfoldable pub Cleared : List ℕ → ℕ → Type 0
Cleared f rows = (r : ℕ) → r < rows → get_or f r 0 ≡ 0

-- of them the last one has bit 0, and nothing else is there
pub record StartedIs (f : List ℕ) (rows : ℕ) : Type 0 where
  pub first : Has f (rows - 1) 0
  pub only : (r i : ℕ) → r < rows → Has f r i → (r ≡ rows - 1) × (i ≡ 0)

unfoldable pub FindPlacesIs : List ℕ → ℕ → List ℕ → List ℕ → Type 0
FindPlacesIs question count t f = (q : Question) (Δ : Defs) (k : ℕ) (xs : List ℕ) → Scene question q Δ k xs t count → PlacesAre Δ k xs t f
