-- What the functions on condition arrays promise of the conditions that the arrays have, and the tests over the classes of listed steps.
use Rattle.std.specs.Prelude.{◌≡◌, Bool, true, false, List, ◌∷◌, ◌++◌, ℕ, ◌+◌, length, get_or, drop}
use Rattle.calculus.specs.Cond.{Cond}
use Rattle.terms.specs.Limits.{name_count}
use Rattle.steps.specs.Listed.{names_from, class_in, implies, own_classes}
use Rattle.steps.specs.Raw.{restricted_alone}
use Rattle.steps_conditions.specs.Slots.{slot_count, HasSlotClasses, HasClasses, Below}

-- one match more
unfoldable pub MergedIs : List ℕ → ℕ → ℕ → List ℕ → Type 0
MergedIs c a b r = (M : Cond) → HasSlotClasses c M → HasSlotClasses r ((a, b) ∷ M)

-- the composition of two conditions
unfoldable pub BothIs : List ℕ → List ℕ → List ℕ → Type 0
BothIs c o r =
    (M N : Cond) → HasSlotClasses c M → HasSlotClasses o N → Below slot_count N → HasSlotClasses r (M ++ N)

-- whether a condition under the restriction at this level, the innermost, merges the restricted name with no other
unfoldable pub AloneIs : List ℕ → ℕ → Bool → Type 0
AloneIs c level r =
    (M : Cond) → HasClasses c (1 + level) M → Below (1 + level + name_count) M → r ≡ restricted_alone M

-- The classes c of a listed step's condition stand at `at`: as many as names.
pub record ClassesAt (bytes : List ℕ) (at : ℕ) (c : List ℕ) : Type 0 where
  pub rest : List ℕ
  pub there : drop at bytes ≡ c ++ rest
  pub count : length c ≡ name_count

unfoldable pub ClassOfIs : List ℕ → ℕ → ℕ → ℕ → Type 0
ClassOfIs bytes at n r = (c : List ℕ) → ClassesAt bytes at c → r ≡ class_in c n

-- Each name is its own class.
unfoldable pub TrivialIs : List ℕ → ℕ → Bool → Type 0
TrivialIs bytes at r = (c : List ℕ) → ClassesAt bytes at c → r ≡ own_classes c (names_from 0 name_count)

unfoldable pub ImpliesIs : List ℕ → ℕ → List ℕ → ℕ → Bool → Type 0
ImpliesIs bytes at others place r =
    (c d : List ℕ) → ClassesAt bytes at c → ClassesAt others place d → r ≡ implies c d (names_from 0 name_count)

-- whether two slots have different classes
pub record RespectsIs (bytes : List ℕ) (at a b : ℕ) (r : Bool) : Type 0 where
  pub apart : r ≡ true → get_or bytes (at + a) 0 ≡ get_or bytes (at + b) 0 → ⊥
  pub merged : r ≡ false → get_or bytes (at + a) 0 ≡ get_or bytes (at + b) 0
