-- The limit of request 2026-01 (document 02): opening a call reaches more than 64 calls, itself included, that differ in definition or names. Here
-- over any limit.
use Rattle.std.specs.Prelude.{List, ◌⊎◌, ℕ, ◌<◌, length}
use Rattle.calculus.specs.Cond.{Cond}
use Rattle.calculus.specs.Definitions.{Defs}
use Rattle.calculus.specs.Lists.{◌∈◌, Distinct}
use Rattle.calls.specs.Reach.{Reached}
use Rattle.calculus.specs.Term.{Term, nil, tau, inp, out, bout, mat, sum, par, res, call}

-- a call: its definition and its names
abbrev pub Call : Type 0
Call = ℕ × List ℕ

module _ (Δ : Defs) (limit : ℕ) where
  -- More calls than the limit that differ, all reached by opening k⟨xs⟩; the matches on the way hold none back.
  pub record ManyCalls (k : ℕ) (xs : List ℕ) : Type 0 where
    pub calls : List Call
    pub distinct : Distinct calls
    pub reached : (c : Call) → c ∈ calls → (C : Cond) × Reached Δ k xs C c.0 c.1
    pub many : limit < length calls

  -- Some one call that stands unprefixed in the part does, whatever stands above it; two calls are not added up.
  abbrev pub PastCalls : Term → Type 0
  PastCalls nil = ⊥
  PastCalls (tau P) = ⊥
  PastCalls (inp a P) = ⊥
  PastCalls (out a b P) = ⊥
  PastCalls (bout a P) = ⊥
  PastCalls (mat a b P) = PastCalls P
  PastCalls (sum P Q) = PastCalls P ⊎ PastCalls Q
  PastCalls (par P Q) = PastCalls P ⊎ PastCalls Q
  PastCalls (res P) = PastCalls P
  PastCalls (call k xs) = ManyCalls k xs
