-- Whether a term is tidied already: what the functions that say so promise.
use Rattle.std.specs.Prelude.{◌≡◌, Bool, true, false, List, ◌++◌, ℕ, suc, ◌+◌, ◌<◌, ◌≤◌, length, get_or, drop, set, Option, Some, None}
use Rattle.calculus.specs.Distinction.{among}
use Rattle.calculus.specs.Term.{Term}
use Rattle.calculus.specs.Tidy.{tidy}
use Rattle.terms.specs.Encoding.{encode, InScope}
use Rattle.terms_bytes.specs.NameTable.{table_names}
use Rattle.terms_bytes.specs.Shape.{own_names, binders, subterms, front_bytes}
use Rattle.terms_bytes.specs.declared.shape.Front.{Front}
use Rattle.terms_tidying.specs.declared.tidied.Place.{Place}

-- A restriction waits until its name is used: the list has 1 at as many as stand around it. Of the `depth` around a term only such are used as pass
-- the test by their index, which counts outward.
unfoldable pub Keeps : ℕ → (ℕ → Bool) → List ℕ → List ℕ → Type 0
Keeps depth test waits waits' = (l : ℕ) → get_or waits l 0 ≡ 1 → ((i : ℕ) → 1 + i + l ≡ depth → test i ≡ false) → get_or waits' l 0 ≡ 1

-- such as one of the bytes names
abbrev pub KeepsBytes : ℕ → List ℕ → List ℕ → List ℕ → Type 0
KeepsBytes depth bytes = Keeps depth (λ i. among bytes (128 + i))

pub record FrontOf (n b k : ℕ) (h : Front) : Type 0 where
  pub len : h.len ≡ n
  pub binds : h.binds ≡ b
  pub subterms : h.subterms ≡ k

-- such as the front of a term names
pub record NextFront (s : List ℕ) (at : ℕ) (arities : List ℕ) (depth : ℕ) (waits : List ℕ) (h : Front) (waits' : List ℕ) : Type 0 where
  pub some : 0 < h.len
  pub few : h.len < 512
  pub one : h.binds ≤ 1
  pub is : (free d : ℕ) (P : Term) (rest : List ℕ)
      → free ≤ table_names
      → InScope free arities d P
      → drop at s ≡ encode d P ++ rest
      → depth ≤ d
      → (h.len ≡ length (front_bytes d P)) × (h.binds ≡ binders P) × (h.subterms ≡ length (subterms P)) × Keeps depth (among (own_names P)) waits waits'

-- Where there is no front, there is no term.
abbrev pub NextFrontIs : List ℕ → ℕ → List ℕ → ℕ → List ℕ → Option Front → List ℕ → Type 0
NextFrontIs s at arities depth waits (Some h) waits' = NextFront s at arities depth waits h waits'
NextFrontIs s at arities depth waits None waits' =
    (free d : ℕ) (P : Term) (rest : List ℕ) → InScope free arities d P → drop at s ≡ encode d P ++ rest → ⊥

-- Where the next term stands behind a front with so many subterms: how many binders are around it, and how many second subterms are still to
-- come. Of each of these the list has how many binders are around it.
pub record FollowIs (subterms depth pending : ℕ) (depths : List ℕ) (r : Place) (depths' : List ℕ) : Type 0 where
  pub few : r.pending ≤ pending + 1
  pub none : subterms ≡ 0 → (k : ℕ) → pending ≡ suc k → (r.pending ≡ k) × (r.depth ≡ get_or depths k 0) × (depths' ≡ depths)
  pub one : subterms ≡ 1 → (r.pending ≡ pending) × (r.depth ≡ depth) × (depths' ≡ depths)
  pub two : subterms ≡ 2 → (r.pending ≡ pending + 1) × (r.depth ≡ depth) × (depths' ≡ set depths pending depth)

-- The bytes are those of a term in scope; where the answer is true it is tidied.
unfoldable pub IsTidiedIs : List ℕ → List ℕ → Bool → Type 0
IsTidiedIs s arities r = r ≡ true → (free d : ℕ) (P : Term) → free ≤ table_names → InScope free arities d P → s ≡ encode d P → tidy P ≡ P
