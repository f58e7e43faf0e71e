-- Whether a term uses the name of a binder around it: what the functions that say so promise.
use Rattle.std.specs.Prelude.{◌≡◌, Bool, true, false, cond, not, List, ◌++◌, ℕ, ◌+◌, ◌<◌, ◌≤◌, length, drop, Option, Some, None, IfSome}
use Rattle.calculus.specs.Distinction.{among}
use Rattle.calculus.specs.Free.{fn}
use Rattle.calculus.specs.Term.{Term, nil, tau, inp, out, bout, mat, sum, par, res, call}
use Rattle.terms.specs.Encoding.{encode, InScope}
use Rattle.terms_bytes.specs.NameTable.{table_names}
use Rattle.terms_bytes.specs.Shape.{own_names, binders, subterms, front_bytes}
use Rattle.terms_bytes.specs.declared.shape.Front.{Front}

-- The front of a term, where the binder number `inner` outward is none of the names in it.
pub record UnusedFront (s : List ℕ) (at : ℕ) (arities : List ℕ) (inner : ℕ) (h : Front) : Type 0 where
  pub inside : at + h.len ≤ length s
  pub some : 0 < h.len
  pub binds : h.binds ≤ 1
  pub is : (free d : ℕ) (P : Term) (rest : List ℕ)
      → free ≤ table_names
      → InScope free arities d P
      → drop at s ≡ encode d P ++ rest
      → inner < d
      → (h.len ≡ length (front_bytes d P)) × (h.binds ≡ binders P) × (h.subterms ≡ length (subterms P)) × (among (own_names P) inner ≡ false)

-- Where there is none, no term stands there, or that name is free in it.
abbrev pub UnusedFrontIs : List ℕ → ℕ → List ℕ → ℕ → Option Front → Type 0
UnusedFrontIs s at arities inner (Some h) = UnusedFront s at arities inner h
UnusedFrontIs s at arities inner None =
    (free d : ℕ) (P : Term) (rest : List ℕ)
    → free ≤ table_names
    → InScope free arities d P
    → drop at s ≡ encode d P ++ rest
    → inner < d
    → among (own_names P) inner ≡ true

-- Where a term ends in which that name is not free.
unfoldable pub UnusedTo : List ℕ → ℕ → List ℕ → ℕ → Option ℕ → Type 0
UnusedTo s at arities inner r =
    (free d : ℕ) (P : Term) (rest : List ℕ)
    → free ≤ table_names
    → InScope free arities d P
    → drop at s ≡ encode d P ++ rest
    → inner < d
    → r ≡ cond (among (fn P) inner) None (Some (at + length (encode d P)))

pub record UnusedToIs (s : List ℕ) (at : ℕ) (arities : List ℕ) (inner : ℕ) (r : Option ℕ) : Type 0 where
  pub inside : IfSome r (λ e. (at ≤ e) × (e ≤ length s))
  pub is : UnusedTo s at arities inner r

-- whether a term is a restriction that binds nothing
unfoldable pub binds_nothing : Term → Bool
binds_nothing nil = false
binds_nothing (tau P) = false
binds_nothing (inp a P) = false
binds_nothing (out a b P) = false
binds_nothing (bout a P) = false
binds_nothing (mat a b P) = false
binds_nothing (sum P Q) = false
binds_nothing (par P Q) = false
binds_nothing (res P) = not (among (fn P) 0)
binds_nothing (call k xs) = false

unfoldable pub BindsNothing : List ℕ → ℕ → List ℕ → Bool → Type 0
BindsNothing s at arities r =
    (free d : ℕ) (P : Term) (rest : List ℕ)
    → free ≤ table_names
    → InScope free arities d P
    → drop at s ≡ encode d P ++ rest
    → r ≡ binds_nothing P

pub record BindsNothingIs (s : List ℕ) (at : ℕ) (arities : List ℕ) (r : Bool) : Type 0 where
  pub inside : r ≡ true → at < length s
  pub is : BindsNothing s at arities r
