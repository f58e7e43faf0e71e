-- Sets of apart pairs as one flag a pair of names (`flags_of`), and what the code over them promises.
use Rattle.std.specs.Prelude.{◌≡◌, Bool, true, false, List, ◌∷◌, ℕ, ◌<◌, get_or}
use Rattle.calculus.specs.Cond.{Pairs}
use Rattle.calculus.specs.Distinction.{Apart, Irr}
use Rattle.terms.specs.Limits.{name_count}
use Rattle.terms.specs.Operations.{holds_apart}
use Rattle.steps.specs.Listed.{ListedStep, class_in}
use Rattle.field_pairs.specs.Entry.{EntryAt}
use Rattle.field_pairs.specs.PairNumbers.{pair_at}
pub use Rattle.field_pairs.specs.PairNumbers.{pair_count}
use Rattle.field_pairs.specs.Slot.{flags_of}
use Rattle.field.specs.Successors.{permitted, allowed}
use Rattle.field_pairs.specs.declared.pairs.Pair.{Pair}

pub record FirstIs (k r : ℕ) : Type 0 where
  pub is : r ≡ (pair_at name_count k).0
  pub below : r < name_count

pub record SecondIs (k r : ℕ) : Type 0 where
  pub is : r ≡ (pair_at name_count k).1
  pub below : r < name_count

pub record PairOfIs (k : ℕ) (r : Pair) : Type 0 where
  pub first : FirstIs k r.first
  pub second : SecondIs k r.second

pub record NumberIs (a b r : ℕ) : Type 0 where
  pub below : r < pair_count
  pub first : (pair_at name_count r).0 ≡ a
  pub second : (pair_at name_count r).1 ≡ b

-- One pair is put to those that the flags say.
unfoldable pub AddsPair : List ℕ → ℕ → ℕ → List ℕ → Type 0
AddsPair flags a b flags' = (D : Pairs) → flags ≡ flags_of D → flags' ≡ flags_of ((a, b) ∷ D)

-- A test that is met says that no flag is set.
unfoldable pub NoneApartIs : List ℕ → Bool → Type 0
NoneApartIs flags r = r ≡ true → (k : ℕ) → k < pair_count → get_or flags k 0 ≡ 0

-- whether two different names are held apart
pub record HeldIs (flags : List ℕ) (a b : ℕ) (r : Bool) : Type 0 where
  pub is : (D : Pairs) → flags ≡ flags_of D → (a ≡ b → ⊥) → r ≡ holds_apart D a b
  pub alone : a ≡ b → r ≡ false

-- The names a and b are apart, and the step's condition merges them.
pub record MergedPair (D : Pairs) (s : ListedStep) (a b : ℕ) : Type 0 where
  pub apart : Apart D a b
  pub merged : class_in s.classes a ≡ class_in s.classes b

-- whether the condition merges n with another name that is apart from it
pub record MergesIs (flags area : List ℕ) (at n : ℕ) (r : Bool) : Type 0 where
  pub some : r ≡ true → (D : Pairs) (s : ListedStep) → flags ≡ flags_of D → EntryAt area at s → (m : ℕ) × MergedPair D s m n
  pub none : r ≡ false → (D : Pairs) (s : ListedStep) → flags ≡ flags_of D → EntryAt area at s → (m : ℕ) → m < name_count → (m ≡ n → ⊥)
      → MergedPair D s m n → ⊥

unfoldable pub PermittedIs : List ℕ → List ℕ → ℕ → Bool → Type 0
PermittedIs flags area at r = (D : Pairs) (s : ListedStep) → Irr D → flags ≡ flags_of D → EntryAt area at s → r ≡ permitted D s

-- whether the step must be answered
unfoldable pub AllowedIs : Bool → List ℕ → List ℕ → ℕ → Bool → Type 0
AllowedIs differ flags area at r =
    (D : Pairs) (s : ListedStep) → flags ≡ flags_of D → Irr D → EntryAt area at s → r ≡ allowed differ name_count D s
