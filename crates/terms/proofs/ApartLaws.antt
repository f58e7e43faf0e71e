-- The apart list as a distinction: its test agrees with the calculus, and an accepted one relates names below 16 and no name with itself.
use mathlib.Core.Path.{◌≡◌, refl, sym, ◌∙◌}
use mathlib.Core.List.{[], ◌∷◌}
use mathlib.Core.Bool.{Bool, true, false, ◌&&◌, ◌||◌}
use mathlib.Core.Logic.{◌⊎◌, inl, inr}
use Prim.Native.Nat.{ℕ, ◌<◌}
use native.Mathlib.Omega.{arith}
use lib.Dec.{eqb}
use borrow.Author.Tests.{eqb-true, eq-eqb}
use Rattle.calculus.specs.Cond.{Pairs}
use Rattle.calculus.specs.Distinction.{Apart, Irr}
use Rattle.terms.specs.Limits.{name_count}
use Rattle.terms.specs.Operations.{holds_apart}
use Rattle.terms.proofs.Answers.{Every, both_true}
use Rattle.terms.proofs.WellFormed.{PairAllowedWith, PairAllowed}

either : (x y : Bool) → (x || y) ≡ true → (x ≡ true) ⊎ (y ≡ true)
either true y e = inl refl
either false y e = inr e

left_true : (x y : Bool) → x ≡ true → (x || y) ≡ true
left_true x y e = rw e

right_true : (x y : Bool) → y ≡ true → (x || y) ≡ true
right_true true y e = refl
right_true false y e = e

pub holds_apart_lem : (D : Pairs) (a b : ℕ) → holds_apart D a b ≡ true → Apart D a b
unfolding holds_apart
holds_apart_lem [] a b h = let z : ◌≡◌ {A = ℕ} 0 1 = cc in absurd (omega arith)
holds_apart_lem (p ∷ D) a b h =
    go (either ((eqb p.0 a && eqb p.1 b) || (eqb p.0 b && eqb p.1 a)) (holds_apart D a b) h) (holds_apart_lem D a b)
  where
    pair : (x y : ℕ) → (eqb p.0 x && eqb p.1 y) ≡ true → (p.0 ≡ x) × (p.1 ≡ y)
    pair x y e = let t = both_true (eqb p.0 x) (eqb p.1 y) e in (eqb-true p.0 x t.0, eqb-true p.1 y t.1)

    here : ((eqb p.0 a && eqb p.1 b) ≡ true) ⊎ ((eqb p.0 b && eqb p.1 a) ≡ true) → Apart (p ∷ D) a b
    here (inl e) = inl (pair a b e)
    here (inr e) = inr (inl (pair b a e))

    go : (((eqb p.0 a && eqb p.1 b) || (eqb p.0 b && eqb p.1 a)) ≡ true) ⊎ (holds_apart D a b ≡ true) →
        (holds_apart D a b ≡ true → Apart D a b) → Apart (p ∷ D) a b
    go (inl e) r = here (either (eqb p.0 a && eqb p.1 b) (eqb p.0 b && eqb p.1 a) e)
    go (inr e) r = inr (inr (r e))

pub apart_holds : (D : Pairs) (a b : ℕ) → Apart D a b → holds_apart D a b ≡ true
unfolding holds_apart
apart_holds [] a b x' = elim x' [ ]
apart_holds (p ∷ D) a b (inl h) = rw (eq-eqb p.0 a h.0, eq-eqb p.1 b h.1)
apart_holds (p ∷ D) a b (inr (inl h)) =
    left_true ((eqb p.0 a && eqb p.1 b) || (eqb p.0 b && eqb p.1 a)) (holds_apart D a b)
    (right_true (eqb p.0 a && eqb p.1 b) (eqb p.0 b && eqb p.1 a) (rw (eq-eqb p.0 b h.0, eq-eqb p.1 a h.1)))
apart_holds (p ∷ D) a b (inr (inr h)) =
    right_true ((eqb p.0 a && eqb p.1 b) || (eqb p.0 b && eqb p.1 a)) (holds_apart D a b) (apart_holds D a b h)

pub allowed_irreflexive : (names : ℕ) (D : Pairs) → Every (PairAllowedWith names) D → Irr D
unfolding Every
allowed_irreflexive names [] w a b x3 e = elim x3 [ ]
allowed_irreflexive names (p ∷ D) w a b (inl h) e = w.0.differ (h.0 ∙ e ∙ sym h.1)
allowed_irreflexive names (p ∷ D) w a b (inr (inl h)) e = w.0.differ (h.0 ∙ sym e ∙ sym h.1)
allowed_irreflexive names (p ∷ D) w a b (inr (inr h)) e = allowed_irreflexive names D w.1 a b h e

pub apart_irreflexive : (D : Pairs) → Every PairAllowed D → Irr D
apart_irreflexive = allowed_irreflexive name_count

pub apart_below : (D : Pairs) → Every PairAllowed D → (a b : ℕ) → Apart D a b → (a < name_count) × (b < name_count)
unfolding Every
apart_below [] w a b x'' = elim x'' [ ]
apart_below (p ∷ D) w a b (inl h) = rw (← h.0, ← h.1) (w.0.left, w.0.right)
apart_below (p ∷ D) w a b (inr (inl h)) = rw (← h.0, ← h.1) (w.0.right, w.0.left)
apart_below (p ∷ D) w a b (inr (inr h)) = apart_below D w.1 a b h
