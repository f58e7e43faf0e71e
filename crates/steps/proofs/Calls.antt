-- Which calls a term's steps open: those that are not beneath a prefix. Assumes nothing.
use mathlib.Core.List.{List, map}
use mathlib.Core.Path.{◌≡◌, ◌∙◌}
use Prim.Native.Nat.{ℕ, zero, suc}
use lib.ListN.{length, length-map}
use Rattle.calculus.specs.Term.{Term, nil, tau, inp, out, bout, mat, sum, par, res, call, lift, ren}
use Rattle.calculus.specs.Definitions.{Defs}

-- C holds of every call that is not beneath a prefix
abbrev pub EachCall : (ℕ → List ℕ → Type 0) → Term → Type 0
EachCall C nil = Unit
EachCall C (tau P) = Unit
EachCall C (inp a P) = Unit
EachCall C (out a b P) = Unit
EachCall C (bout a P) = Unit
EachCall C (mat a b P) = EachCall C P
EachCall C (sum P Q) = EachCall C P × EachCall C Q
EachCall C (par P Q) = EachCall C P × EachCall C Q
EachCall C (res P) = EachCall C P
EachCall C (call k xs) = C k xs

-- Names do not matter where they do not to C.
pub each-call-ren : (C : ℕ → List ℕ → Type 0) → ((k : ℕ) (xs : List ℕ) (σ : ℕ → ℕ) → C k xs → C k (map σ xs))
    → (P : Term) (σ : ℕ → ℕ) → EachCall C P → EachCall C (ren σ P)
each-call-ren C h nil σ c = tt
each-call-ren C h (tau P) σ c = tt
each-call-ren C h (inp a P) σ c = tt
each-call-ren C h (out a b P) σ c = tt
each-call-ren C h (bout a P) σ c = tt
each-call-ren C h (mat a b P) σ c = each-call-ren C h P σ c
each-call-ren C h (sum P Q) σ c = (each-call-ren C h P σ c.0, each-call-ren C h Q σ c.1)
each-call-ren C h (par P Q) σ c = (each-call-ren C h P σ c.0, each-call-ren C h Q σ c.1)
each-call-ren C h (res P) σ c = each-call-ren C h P (lift σ) c
each-call-ren C h (call k xs) σ c = h k xs σ c

module _ (Δ : Defs) where
  -- The call has as many names as its definition has parameters, may be opened, and reaches itself alone.
  abbrev pub CallOpens : ℕ → ℕ → List ℕ → Type 0
  CallOpens zero k xs = ⊥
  CallOpens (suc n) k xs = (length xs ≡ Δ.arity k) × EachCall (λ l ys. ⊥) (Δ.body k)

  -- So it is for every call that the term's steps open.
  abbrev pub Opens : ℕ → Term → Type 0
  Opens n = EachCall (CallOpens n)

  call_opens_map : (n k : ℕ) (xs : List ℕ) (σ : ℕ → ℕ) → CallOpens n k xs → CallOpens n k (map σ xs)
  call_opens_map zero k xs σ c = elim c [ ]
  call_opens_map (suc n) k xs σ c = (length-map xs σ ∙ c.0, c.1)

  pub opens_ren : (n : ℕ) (P : Term) (σ : ℕ → ℕ) → Opens n P → Opens n (ren σ P)
  opens_ren n = each-call-ren (CallOpens n) (call_opens_map n)
