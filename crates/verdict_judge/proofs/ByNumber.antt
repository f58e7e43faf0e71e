-- The members of a list without repeats by their numbers. Assumes nothing.
use mathlib.Core.List.{List, [], ◌∷◌}
use mathlib.Core.Path.{◌≡◌, refl, sym, ap, subst}
use native.Mathlib.Omega.{arith}
use Prim.Native.Nat.{ℕ, zero, suc, ◌<◌}
use lib.ListN.{length, get_or}
use Rattle.calculus.specs.Lists.{◌∈◌, Distinct}
use Rattle.field.proofs.Members.{get_d_∈}

module _ {A : Type 0} where
  -- none has two numbers
  pub distinct_number : (xs : List A) → Distinct xs → (i j : ℕ) (d e : A) → i < length xs → j < length xs → get_or xs i d ≡ get_or xs j e → i ≡ j
  distinct_number [] h i j d e k l q = absurd (omega arith)
  distinct_number (x ∷ xs) h zero zero d e k l q = refl
  distinct_number (x ∷ xs) h zero (suc j) d e k l q = absurd (h.0 (subst (λ y. y ∈ xs) (sym q) (get_d_∈ xs j e (omega arith))))
  distinct_number (x ∷ xs) h (suc i) zero d e k l q = absurd (h.0 (subst (λ y. y ∈ xs) q (get_d_∈ xs i d (omega arith))))
  distinct_number (x ∷ xs) h (suc i) (suc j) d e k l q = ap suc (distinct_number xs h.1 i j d e (omega arith) (omega arith) q)
