-- What the code that updates the apart pairs promises: document 000, Definition 15, and document 01, "The field and the verdict".
use Rattle.std.specs.Prelude.{◌≡◌, Bool, true, cond, List, [], ◌∷◌, ◌++◌, map, ℕ, eqb, get_or}
use Rattle.calculus.specs.Cond.{Pairs, map_p}
use Rattle.calculus.specs.Distinction.{among}
use Rattle.calculus.specs.Free.{fn}
use Rattle.calculus.specs.OpenBisimulation.{times}
use Rattle.calculus.specs.Term.{Term}
use Rattle.terms.specs.Limits.{name_count}
use Rattle.terms.specs.Operations.{holds_apart}
use Rattle.steps.specs.Listed.{ListedStep, names_from, class_in}
use Rattle.field_pairs.specs.Entry.{EntryAt}
use Rattle.field_pairs.specs.NameFlags.{HasNames}
use Rattle.field_pairs.specs.PairNumbers.{pair_at}
use Rattle.field_pairs.specs.PairFlags.{pair_count}
use Rattle.field.specs.Situation.{free_from, situation}
use Rattle.field_pairs.specs.Slot.{flags_of}
use Rattle.field.specs.Successors.{extruded_by, updated_by}

-- The pair of x and n is added if n is one of the names G.
unfoldable pub AddsIfFree : List ℕ → List ℕ → ℕ → ℕ → List ℕ → Type 0
AddsIfFree flags free x n flags' =
    (G : List ℕ) (D : Pairs) → HasNames free G → flags ≡ flags_of D → flags' ≡ flags_of (cond (among G n) ((x, n) ∷ D) D)

-- The pairs of x with each of the names G.
unfoldable pub AddsRow : List ℕ → List ℕ → ℕ → List ℕ → Type 0
AddsRow flags free x flags' =
    (G : List ℕ) (D : Pairs) → HasNames free G → flags ≡ flags_of D → flags' ≡ flags_of (map (λ n. (x, n)) (free_from G 0 name_count) ++ D)

-- The extruded name is apart from each of the names G.
unfoldable pub AddsExtruded : List ℕ → List ℕ → List ℕ → ℕ → List ℕ → Type 0
AddsExtruded flags free area at flags' =
    (G : List ℕ) (D : Pairs) (s : ListedStep) → HasNames free G → flags ≡ flags_of D → EntryAt area at s
    → flags' ≡ flags_of (times (extruded_by s) (free_from G 0 name_count) ++ D)

-- Pair k of E, rewritten by the step's condition, is added to D.
unfoldable pub AddsRewritten : List ℕ → ℕ → List ℕ → ℕ → List ℕ → List ℕ → Type 0
AddsRewritten flags k area at new new' =
    (E D : Pairs) (s : ListedStep) → flags ≡ flags_of E → new ≡ flags_of D → EntryAt area at s
    → new' ≡ flags_of (cond (holds_apart E (pair_at name_count k).0 (pair_at name_count k).1) ((class_in s.classes (pair_at name_count k).0, class_in s.classes (pair_at name_count k).1) ∷ D) D)

-- All of E, rewritten.
unfoldable pub RewritesPairs : List ℕ → List ℕ → ℕ → List ℕ → List ℕ → Type 0
RewritesPairs flags area at new new' =
    (E : Pairs) (s : ListedStep) → flags ≡ flags_of E → new ≡ flags_of [] → EntryAt area at s → new' ≡ flags_of (map_p (class_in s.classes) E)

-- Definition 15.
unfoldable pub UpdatedIs : List ℕ → List ℕ → List ℕ → ℕ → List ℕ → Type 0
UpdatedIs flags free area at r =
    (G : List ℕ) (D : Pairs) (s : ListedStep) → HasNames free G → flags ≡ flags_of D → EntryAt area at s
    → r ≡ flags_of (updated_by (free_from G 0 name_count) D s)

-- The step leaves every list of pairs as it is.
unfoldable pub KeepsPairs : List ℕ → ℕ → Bool → Type 0
KeepsPairs area at r = r ≡ true → (flags free : List ℕ) → UpdatedIs flags free area at flags

-- a flag if the name is free, else 0
unfoldable pub if_free : ℕ → ℕ → ℕ
if_free free v = cond (eqb free 0) 0 v

-- the flag of pair k, if both its names are free
unfoldable pub kept_flag : List ℕ → List ℕ → ℕ → ℕ
kept_flag flags free k = if_free (get_or free (pair_at name_count k).0 0) (if_free (get_or free (pair_at name_count k).1 0) (get_or flags k 0))

unfoldable pub kept_flags : List ℕ → List ℕ → List ℕ
kept_flags flags free = map (kept_flag flags free) (names_from 0 pair_count)

-- Those of E are kept of which each name is free in at least one part.
unfoldable pub KeptIs : List ℕ → List ℕ → List ℕ → Type 0
KeptIs flags free r =
    (P Q : Term) (E : Pairs) → HasNames free (fn P ++ fn Q) → flags ≡ flags_of E → r ≡ flags_of (situation name_count P Q E).apart
