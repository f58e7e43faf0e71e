-- Exploration of the field, up to a capacity: the situations found are taken up one by one. That it finds the field is a theorem
-- (proofs/FieldIsSmallest).
use Rattle.std.specs.Prelude.{Bool, false, cond, ◌||◌, List, [], ◌∷◌, ◌++◌, map, ◌↔◌, ℕ, zero, suc}
use Rattle.calculus.specs.Definitions.{Defs}
use Rattle.calculus.specs.Lists.{◌∈◌, Distinct}
use Rattle.field.specs.Setting.{Setting}
use Rattle.field.specs.Situation.{Situation, same_situation}
use Rattle.field.specs.Successors.{past_limit, leads, successors}
use Rattle.field.specs.Field.{InField}

unfoldable pub found : List Situation → Situation → Bool
found [] s = false
found (t ∷ ts) s = same_situation s t || found ts s

-- those that are not among the known ones, each once
unfoldable pub unseen : List Situation → List Situation → List Situation
unseen known [] = []
unseen known (s ∷ ss) = cond (found known s) (unseen known ss) (s ∷ unseen (s ∷ known) ss)

unfoldable pub together : List (List Situation) → List Situation
together [] = []
together (m ∷ ms) = m ++ together ms

-- A situation of the field, and for each permitted step of either side the situations that its answers lead to
pub record Row : Type 0 where
  pub self : Situation
  pub wants : List (List Situation)

abbrev pub selves : List Row → List Situation
selves rs = map (λ r. r.self) rs

pub data Exploration : Type 0 where
  incomplete : Exploration
  explored : List Row → Exploration

unfoldable pub with_row : Row → Exploration → Exploration
with_row r incomplete = incomplete
with_row r (explored rs) = explored (r ∷ rs)

module _ (S : Setting) where
  -- `known` are the situations found, `waiting` those of them that are not taken up yet
  unfoldable pub explore : ℕ → List Situation → List Situation → Exploration
  explore zero known [] = explored []
  explore zero known (s ∷ waiting) = incomplete
  explore (suc n) known [] = explored []
  explore (suc n) known (s ∷ waiting) =
      elim (successors S s) [
        | past_limit ↦ incomplete
        | leads ms ↦ (let fresh = unseen known (together ms) in
            with_row (record { self = s; wants = ms }) (explore n (known ++ fresh) (waiting ++ fresh)))
      ]

  unfoldable pub field_of : ℕ → Situation → Exploration
  field_of capacity start = explore capacity (start ∷ []) (start ∷ [])

-- the situations of rs are those of the field, each once
pub record HoldsField (Δ : Defs) (S : Setting) (start : Situation) (rs : List Row) : Type 0 where
  pub distinct : Distinct (selves rs)
  pub members : (s : Situation) → (s ∈ selves rs) ↔ InField Δ S start s
