-- The free names of a part as one flag a name.
use Rattle.std.specs.Prelude.{◌≡◌, Bool, List, [], ◌∷◌, ℕ, ◌<◌, ◌≤◌, length, get_or, set}
use Rattle.calculus.specs.Distinction.{among}
use Rattle.calculus.specs.Free.{Free, fn}
use Rattle.calculus.specs.Term.{Term}
use Rattle.terms.specs.Limits.{name_count}
use Rattle.terms.specs.Encoding.{encode, InScope}

-- Flags set at each of the numbers.
unfoldable pub marks : List ℕ → List ℕ → List ℕ
marks flags [] = flags
marks flags (b ∷ bs) = marks (set flags b 1) bs

-- The flags of the part's free names are set, the others are as they were.
pub record MarksFree (P : Term) (flags flags' : List ℕ) : Type 0 where
  pub free : (n : ℕ) → n < name_count → Free n P → get_or flags' n 0 ≡ 1
  pub other : (n : ℕ) → n < name_count → (Free n P → ⊥) → get_or flags' n 0 ≡ get_or flags n 0

-- A flag is 1 exactly if its name is free in the part, and else 0.
pub record FreeFlags (P : Term) (flags : List ℕ) : Type 0 where
  pub free : (n : ℕ) → n < name_count → Free n P → get_or flags n 0 ≡ 1
  pub only : (n : ℕ) → n < name_count → get_or flags n 0 ≡ 1 → Free n P
  pub bit : (n : ℕ) → n < name_count → get_or flags n 0 ≤ 1

-- The same of bytes that are a part's.
unfoldable pub MarksFreeOf : List ℕ → List ℕ → List ℕ → List ℕ → Type 0
MarksFreeOf s arities flags flags' =
    (P : Term) → InScope name_count arities 0 P → s ≡ encode 0 P → length flags ≡ name_count → MarksFree P flags flags'

unfoldable pub FreeFlagsOf : List ℕ → List ℕ → List ℕ → Type 0
FreeFlagsOf s arities flags = (P : Term) → InScope name_count arities 0 P → s ≡ encode 0 P → FreeFlags P flags

-- Whether a number is a free name of the part, as check 13 asks.
unfoldable pub IsFreeOf : List ℕ → List ℕ → ℕ → Bool → Type 0
IsFreeOf s arities x r = (P : Term) → InScope name_count arities 0 P → s ≡ encode 0 P → r ≡ among (fn P) x
