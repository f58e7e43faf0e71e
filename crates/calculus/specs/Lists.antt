-- Members of a list.
use Rattle.std.specs.Prelude.{List, [], ◌∷◌, ◌⊎◌, ◌≡◌}

module _ {A : Type 0} where
  infix 20 ◌∈◌
  abbrev pub ◌∈◌ : A → List A → Type 0
  x ∈ [] = ⊥
  x ∈ (y ∷ ys) = (x ≡ y) ⊎ (x ∈ ys)

  -- every member of the first is one of the second
  abbrev pub Among : List A → List A → Type 0
  Among xs ys = (x : A) → x ∈ xs → x ∈ ys

  -- S holds of every member
  abbrev pub All : (A → Type 0) → List A → Type 0
  All S [] = Unit
  All S (x ∷ xs) = S x × All S xs

  -- no member stands twice
  abbrev pub Distinct : List A → Type 0
  Distinct [] = Unit
  Distinct (x ∷ xs) = (¬ (x ∈ xs)) × Distinct xs
