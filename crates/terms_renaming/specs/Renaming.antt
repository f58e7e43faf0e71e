-- What the routine that renames a term's bytes promises.
use Rattle.std.specs.Prelude.{◌≡◌, List, ◌++◌, ℕ, ◌+◌, ◌≤◌, max, min, length, drop, Option, Some, None}
use Rattle.std.proofs.lemmas.List.Edits.{sets}
use Rattle.calculus.specs.Term.{Term, ren}
use Rattle.terms_bytes.specs.NameTable.{table_names}
use Rattle.terms.specs.Encoding.{encode, InScope}
use Rattle.terms_bytes.specs.NameTable.{Represents, RepresentsBeneath}
use Rattle.terms_bytes.specs.Shape.{front_bytes, binders, subterms, height}
use Rattle.terms_bytes.specs.declared.shape.Front.{Front}

-- Of terms alone: where the bytes from `at` begin with those of P, exactly the bytes of P renamed are stored from `put` on, and the answer is
-- their number. A renamed term is as long as it was. Every index of a binder has a byte: D' + height ≤ 128.
unfoldable pub RenameIs : List ℕ → ℕ → List ℕ → List ℕ → List ℕ → ℕ → ℕ → List ℕ → Type 0
RenameIs s at arities table out put r out' =
    (free D D' : ℕ) (ρ : ℕ → ℕ) (P : Term) (rest : List ℕ)
    → free ≤ table_names
    → Represents free D D' table ρ
    → InScope free arities D P
    → drop at s ≡ encode D P ++ rest
    → D' + height P ≤ 128
    → put + length (encode D P) ≤ length out
    → (r ≡ length (encode D P)) × (out' ≡ sets out put (encode D' (ren ρ P)))

-- The front of a term, copied with its names renamed.
pub record RenamedFront (s : List ℕ) (at : ℕ) (arities : List ℕ) (inner : ℕ) (table out : List ℕ) (put : ℕ) (r : Front) (out' : List ℕ) : Type 0 where
  pub inside : at + r.len ≤ max at (length s)
  pub room : put + r.len ≤ max put (length out)
  pub step : min 1 r.subterms ≤ r.len
  pub binds : r.binds ≤ r.len
  pub is : (free d d' : ℕ) (ρ : ℕ → ℕ) (P : Term) (rest : List ℕ)
      → free ≤ table_names
      → RepresentsBeneath inner free d d' table ρ
      → InScope free arities d P
      → drop at s ≡ encode d P ++ rest
      → put + length (encode d P) ≤ length out
      → (r.len ≡ length (front_bytes d P)) × (r.binds ≡ binders P) × (r.subterms ≡ length (subterms P))
      × (out' ≡ sets out put (front_bytes d' (ren ρ P)))

-- No term in scope stands at `at` whose copy fits at `put`.
abbrev pub NoTerm : List ℕ → ℕ → List ℕ → List ℕ → ℕ → Type 0
NoTerm s at arities out put =
    (free d : ℕ) (P : Term) (rest : List ℕ) → InScope free arities d P → drop at s ≡ encode d P ++ rest → put + length (encode d P) ≤ length out → ⊥

abbrev pub RenamedFrontIs : List ℕ → ℕ → List ℕ → ℕ → List ℕ → List ℕ → ℕ → Option Front → List ℕ → Type 0
RenamedFrontIs s at arities inner table out put (Some r) out' = RenamedFront s at arities inner table out put r out'
RenamedFrontIs s at arities inner table out put None out' = NoTerm s at arities out put

-- A subterm, beneath `inner` binders of the term; the answer is where it ends.
unfoldable pub RenamedBeneath : List ℕ → ℕ → List ℕ → ℕ → List ℕ → List ℕ → ℕ → ℕ → List ℕ → Type 0
RenamedBeneath s at arities inner table out put r out' =
    (free d d' : ℕ) (ρ : ℕ → ℕ) (P : Term) (rest : List ℕ)
    → free ≤ table_names
    → RepresentsBeneath inner free d d' table ρ
    → InScope free arities d P
    → drop at s ≡ encode d P ++ rest
    → d' + height P ≤ 128
    → put + length (encode d P) ≤ length out
    → (r ≡ at + length (encode d P)) × (out' ≡ sets out put (encode d' (ren ρ P)))

pub record RenamedBeneathIs (s : List ℕ) (at : ℕ) (arities : List ℕ) (inner : ℕ) (table out : List ℕ) (put r : ℕ) (out' : List ℕ) : Type 0 where
  pub on : at ≤ r
  pub inside : r ≤ max at (length s)
  pub is : RenamedBeneath s at arities inner table out put r out'
