-- The flags of free names by the test of membership in the list of them. Assumes nothing.
use mathlib.Core.Path.{◌≡◌, refl, ap, ◌∙◌}
use mathlib.Core.Bool.{Bool, true, false, cond}
use mathlib.Core.List.{List}
use Prim.Native.Nat.{ℕ, ◌<◌, ◌≤◌}
use native.Mathlib.Omega.{arith}
use lib.ListN.{get_or}
use lib.Dec.{eqb}
use Rattle.calculus.specs.Distinction.{among}
use Rattle.calculus.specs.Free.{Free, fn}
use Rattle.calculus.specs.Term.{Term}
use Rattle.calculus.proofs.FreeNames.{free→fn, fn→free}
use Rattle.calculus.proofs.Selection.{in_among, among_in}
use Rattle.terms.specs.Limits.{name_count}
use Rattle.terms.specs.Encoding.{InScope}
use Rattle.terms_renaming.specs.FreeFlags.{MarksFree, FreeFlags}
use Rattle.terms.proofs.ScopeLaws.{free_below}

-- the test's answers
among_free : (P : Term) (n : ℕ) → among (fn P) n ≡ true → Free n P
among_free P n e = fn→free n P (among_in (fn P) n e)

among_not : (P : Term) (n : ℕ) → among (fn P) n ≡ false → Free n P → ⊥
among_not P n e f = let z : ◌≡◌ {A = ℕ} 0 1 = cc (in_among (fn P) n (free→fn n P f)) in omega arith

pub marked_flag : (P : Term) (flags flags' : List ℕ) → MarksFree P flags flags' → (n : ℕ) → n < name_count
    → get_or flags' n 0 ≡ cond (among (fn P) n) 1 (get_or flags n 0)
marked_flag P flags flags' m n l = go (among (fn P) n) refl
  where
    go : (t : Bool) → among (fn P) n ≡ t → get_or flags' n 0 ≡ cond t 1 (get_or flags n 0)
    go true e = m.free n l (among_free P n e)
    go false e = m.other n l (among_not P n e)

pub free_flag : (P : Term) (flags : List ℕ) → FreeFlags P flags → (n : ℕ) → n < name_count → get_or flags n 0 ≡ cond (among (fn P) n) 1 0
free_flag P flags f n l = go (among (fn P) n) refl
  where
    go : (t : Bool) → among (fn P) n ≡ t → get_or flags n 0 ≡ cond t 1 0
    go true e = f.free n l (among_free P n e)
    go false e =
        let k : get_or flags n 0 ≡ 1 → ⊥ = λ q. among_not P n e (f.only n l q) in
        omega (arith, f.bit n l)

pub free_test : (P : Term) (flags : List ℕ) → FreeFlags P flags → (n : ℕ) → n < name_count → eqb (get_or flags n 0) 1 ≡ among (fn P) n
free_test P flags f n l = ap (λ k. eqb k 1) (free_flag P flags f n l) ∙ go (among (fn P) n)
  where
    go : (t : Bool) → eqb (cond t 1 0) 1 ≡ t
    go true = refl
    go false = refl

-- of numbers that are no names none is free
pub none_free : (arities : List ℕ) (P : Term) → InScope name_count arities 0 P → (x : ℕ) → name_count ≤ x → among (fn P) x ≡ false
none_free arities P scope x h = go (among (fn P) x) refl
  where
    go : (t : Bool) → among (fn P) x ≡ t → among (fn P) x ≡ false
    go true e = absurd (omega (arith, free_below name_count arities 0 P scope x (among_free P x e)))
    go false e = e
