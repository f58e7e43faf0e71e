-- A set of names as one flag a name, and what the code promises of the names free in a situation.
use Rattle.std.specs.Prelude.{◌≡◌, Bool, true, List, ◌++◌, ℕ, ◌<◌, ◌≤◌, get_or}
use Rattle.calculus.specs.Distinction.{among}
use Rattle.calculus.specs.Free.{fn}
use Rattle.calculus.specs.Term.{Term}
use Rattle.terms.specs.Limits.{name_count}
use Rattle.terms.specs.Encoding.{encode, InScope}
use Rattle.steps.specs.Listed.{ListedStep}
use Rattle.field.specs.Situation.{free_from, new_name}
use Rattle.field.specs.Successors.{received}
use Rattle.field_pairs.specs.Entry.{EntryAt}
use Rattle.field_pairs.specs.Slot.{flag}

-- The flags say which names are among F.
unfoldable pub HasNames : List ℕ → List ℕ → Type 0
HasNames flags F = (n : ℕ) → n < name_count → get_or flags n 0 ≡ flag (among F n)

-- Of bytes that are two parts: the names free in the one or the other.
unfoldable pub FreeInEitherIs : List ℕ → List ℕ → List ℕ → List ℕ → Type 0
FreeInEitherIs first second arities flags =
    (P Q : Term) → InScope name_count arities 0 P → InScope name_count arities 0 Q → first ≡ encode 0 P → second ≡ encode 0 Q
    → HasNames flags (fn P ++ fn Q)

-- The new name, from the names free in the two parts.
pub record NewNameIs (free : List ℕ) (r : ℕ) : Type 0 where
  pub within : r ≤ name_count
  pub is : (P Q : Term) → HasNames free (fn P ++ fn Q) → r ≡ new_name name_count P Q

-- Whether the name is put for the object of the step where all names differ; the names free in the two parts are those of G.
unfoldable pub ReceivedIs : List ℕ → List ℕ → ℕ → ℕ → Bool → Type 0
ReceivedIs free area at name r =
    (G : List ℕ) (s : ListedStep) → HasNames free G → EntryAt area at s → r ≡ among (received true name_count (free_from G 0 name_count) s) name
