-- The table of the places of a call k⟨xs⟩ (document 02, request 2026-01): a row for each partition of its names, by its number, and in it a bit for each
-- call of the table of calls, set if that call is reached under the condition that merges what the partition does.
use Rattle.std.specs.Prelude.{cond, List, [], ◌∷◌, ◌++◌, ◌≡◌, ℕ, suc, ◌/◌, ◌%◌, ◌^◌, ◌<◌, eqb, length, get_or}
use Rattle.calculus.specs.Cond.{Cond, Unif, ◌▷◌}
use Rattle.calculus.specs.Definitions.{Defs, opened}
use Rattle.calls.specs.Reach.{Bare, Reached}
use Rattle.calls.specs.ReachSearch.{Place}
use Rattle.steps_partitions.specs.Partition.{Partition, rank, merged_at}
use Rattle.steps_reach.specs.CallTable.{most_calls, RowIs}

-- bit j of a number
unfoldable pub bit : ℕ → ℕ → ℕ
bit x j = x / 2 ^ j % 2

-- bit j of row r is set
abbrev pub Has : List ℕ → ℕ → ℕ → Type 0
Has f r j = bit (get_or f r 0) j ≡ 1

-- the first of the names that is x
unfoldable pub slot_of : List ℕ → ℕ → ℕ
slot_of [] x = 0
slot_of (y ∷ ys) x = cond (eqb x y) 0 (suc (slot_of ys x))

-- the partition of the names xs once the matches hold too
unfoldable pub along : List ℕ → List ℕ → Cond → List ℕ
along xs v [] = v
along xs v (p ∷ C) = along xs (merged_at v (slot_of xs p.0) (slot_of xs p.1)) C

-- f makes one name of those in a class
abbrev pub Agrees : List ℕ → List ℕ → (ℕ → ℕ) → Type 0
Agrees xs v f = (i j : ℕ) → i < length xs → j < length xs → get_or v i 0 ≡ get_or v j 0 → f (get_or xs i 0) ≡ f (get_or xs j 0)

-- The condition merges what the partition of the names xs does, and nothing else: what makes either true makes both.
pub record Means (xs v : List ℕ) (C : Cond) : Type 0 where
  pub agrees : (f : ℕ → ℕ) → Unif f C → Agrees xs v f
  pub unifies : (f : ℕ → ℕ) → Agrees xs v f → Unif f C

module _ (Δ : Defs) where
  -- The place is in the table f, up to the form of its condition, its call in the table of calls t.
  pub record InTable (xs t f : List ℕ) (p : Place) : Type 0 where
    pub partition : List ℕ
    pub is : Partition (length xs) partition
    pub number : ℕ
    pub few : number < most_calls
    pub row : RowIs t number (p.definition, p.names)
    pub sized : length p.names ≡ Δ.arity p.definition
    pub found : Has f (rank partition) number
    pub means : Means xs partition p.condition

  -- The table has the places of k⟨xs⟩: the call itself, every call that a place goes on to, and nothing that is not reached.
  pub record PlacesAre (k : ℕ) (xs t f : List ℕ) : Type 0 where
    pub start : InTable xs t f (record { condition = []; definition = k; names = xs })
    pub onward : (p : Place) → InTable xs t f p → (C : Cond) (l : ℕ) (ys : List ℕ) → Bare (opened p.names (Δ.body p.definition)) C l ys
        → InTable xs t f (record { condition = p.condition ++ C; definition = l; names = ys })
    pub sound : (p : Place) → InTable xs t f p → (C : Cond) × Reached Δ k xs C p.definition p.names × (p.condition ▷ C) × (C ▷ p.condition)
