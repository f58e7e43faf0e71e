-- The bytes of a tidied term: what the functions that write them promise.
use Rattle.std.specs.Prelude.{◌≡◌, false, List, ◌++◌, ℕ, ◌+◌, ◌≤◌, max, min, length, drop, Option, Some, None}
use Rattle.std.proofs.lemmas.List.Edits.{sets}
use Rattle.calculus.specs.Distinction.{among}
use Rattle.calculus.specs.Free.{fn}
use Rattle.calculus.specs.Term.{Term, res}
use Rattle.calculus.specs.Tidy.{tidy}
use Rattle.terms.specs.Encoding.{encode, InScope}
use Rattle.terms_bytes.specs.NameTable.{table_names}
use Rattle.terms_bytes.specs.Shape.{subterms, height, front_bytes}
use Rattle.terms_bytes.specs.declared.shape.Front.{Front}
use Rattle.terms_renaming.specs.Renaming.{NoTerm}
use Rattle.terms_tidying.specs.declared.tidy.Ends.{Ends}

-- The bytes of a result before it is tidied are fewer.
abbrev pub longest_raw : ℕ
longest_raw = 336

-- The front of a term, copied.
pub record CopiedFront (s : List ℕ) (at : ℕ) (arities out : List ℕ) (put : ℕ) (h : Front) (out' : List ℕ) : Type 0 where
  pub inside : at + h.len ≤ max at (length s)
  pub room : put + h.len ≤ max put (length out)
  pub step : min 1 h.subterms ≤ h.len
  pub is : (free d : ℕ) (P : Term) (rest : List ℕ)
      → InScope free arities d P
      → drop at s ≡ encode d P ++ rest
      → put + length (encode d P) ≤ length out
      → (h.len ≡ length (front_bytes d P)) × (h.subterms ≡ length (subterms P)) × (out' ≡ sets out put (front_bytes d P))

abbrev pub CopiedFrontIs : List ℕ → ℕ → List ℕ → List ℕ → ℕ → Option Front → List ℕ → Type 0
CopiedFrontIs s at arities out put (Some h) out' = CopiedFront s at arities out put h out'
CopiedFrontIs s at arities out put None out' = NoTerm s at arities out put

-- Of terms alone: where the bytes from `at` begin with those of P, exactly the bytes of the tidied P are stored from `put` on. Every index of a
-- binder has a byte: d + height ≤ 128.
unfoldable pub Tidied : List ℕ → ℕ → List ℕ → List ℕ → ℕ → Ends → List ℕ → Type 0
Tidied s at arities out put r out' =
    (free d : ℕ) (P : Term) (rest : List ℕ)
    → free ≤ table_names
    → InScope free arities d P
    → drop at s ≡ encode d P ++ rest
    → d + height P ≤ 128
    → length (encode d P) ≤ longest_raw
    → put + length (encode d P) ≤ length out
    → (r.read ≡ at + length (encode d P)) × (r.written ≡ put + length (encode d (tidy P))) × (out' ≡ sets out put (encode d (tidy P)))

pub record TidiedIs (s : List ℕ) (at : ℕ) (arities out : List ℕ) (put : ℕ) (r : Ends) (out' : List ℕ) : Type 0 where
  pub on : at ≤ r.read
  pub inside : r.read ≤ max at (length s)
  pub room : r.written ≤ max put (length out)
  pub is : Tidied s at arities out put r out'

-- A term that stands beneath a restriction which binds nothing: the restriction goes.
unfoldable pub TidiedBeneath : List ℕ → ℕ → List ℕ → List ℕ → ℕ → Ends → List ℕ → Type 0
TidiedBeneath s at arities out put r out' =
    (free d : ℕ) (P : Term) (rest : List ℕ)
    → free ≤ table_names
    → InScope free arities (1 + d) P
    → drop at s ≡ encode (1 + d) P ++ rest
    → among (fn P) 0 ≡ false
    → d + height P ≤ 128
    → length (encode (1 + d) P) ≤ longest_raw
    → put + length (encode (1 + d) P) ≤ length out
    → (r.read ≡ at + length (encode (1 + d) P)) × (r.written ≡ put + length (encode d (tidy (res P)))) × (out' ≡ sets out put (encode d (tidy (res P))))

pub record TidiedBeneathIs (s : List ℕ) (at : ℕ) (arities out : List ℕ) (put : ℕ) (r : Ends) (out' : List ℕ) : Type 0 where
  pub on : at ≤ r.read
  pub inside : r.read ≤ max at (length s)
  pub room : r.written ≤ max put (length out)
  pub is : TidiedBeneath s at arities out put r out'
