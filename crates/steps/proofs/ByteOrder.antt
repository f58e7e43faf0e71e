-- Byte order is a strict total order. Assumes nothing.
use borrow.Author.Tests.{leb-true, leb-false, eqb-true, eqb-false}
use mathlib.Core.List.{List, [], ◌∷◌}
use mathlib.Core.Logic.{◌⊎◌, inl, inr}
use mathlib.Core.Path.{◌≡◌, refl, sym, ◌∙◌, ap, ap₂, subst}
use native.Mathlib.Omega.{arith}
use Prim.Native.Nat.{ℕ, ◌<◌, ◌≤◌, compare, Ordering}
use lib.Dec.{is_le, compare_is_eq}
use Rattle.steps.specs.Listing.{order}

abbrev pub Before : List ℕ → List ℕ → Type 0
Before [] [] = ⊥
Before [] (y ∷ ys) = Unit
Before (x ∷ xs) [] = ⊥
Before (x ∷ xs) (y ∷ ys) = (x < y) ⊎ ((x ≡ y) × Before xs ys)

-- what a comparison says of the two compared
abbrev pub Says : {A : Type 0} → (A → A → Type 0) → A → A → Ordering → Type 0
Says R x y Ordering.lt = R x y
Says R x y Ordering.eq = x ≡ y
Says R x y Ordering.gt = R y x

compared : (x y : ℕ) → (o : Ordering) → compare x y ≡ o → Says ◌<◌ x y o
compared x y Ordering.lt e =
    let l : x ≤ y = leb-true x y (ap is_le e) in
    let k : x ≡ y → ⊥ = eqb-false x y (ap compare_is_eq e) in
    omega arith
compared x y Ordering.eq e = eqb-true x y (ap compare_is_eq e)
compared x y Ordering.gt e = leb-false x y (ap is_le e)

pub ordered : (xs ys : List ℕ) → Says Before xs ys (order xs ys)
unfolding order
ordered [] [] = refl
ordered [] (y ∷ ys) = tt
ordered (x ∷ xs) [] = tt
ordered (x ∷ xs) (y ∷ ys) = go (compare x y) (compared x y (compare x y) refl) (order xs ys) (ordered xs ys)
  where
    later : x ≡ y → (o : Ordering) → Says Before xs ys o → Says Before (x ∷ xs) (y ∷ ys) o
    later e Ordering.lt s = inr (e, s)
    later e Ordering.eq s = ap₂ ◌∷◌ e s
    later e Ordering.gt s = inr (sym e, s)

    go : (o : Ordering) → Says ◌<◌ x y o → (p : Ordering) → Says Before xs ys p
        → Says Before (x ∷ xs) (y ∷ ys) (elim o [ Ordering.lt ↦ Ordering.lt | Ordering.eq ↦ p | Ordering.gt ↦ Ordering.gt ])
    go Ordering.lt h p s = inl h
    go Ordering.eq h p s = later h p s
    go Ordering.gt h p s = inl h

pub before_irreflexive : (xs : List ℕ) → ¬ Before xs xs
before_irreflexive [] x' = elim x' [ ]
before_irreflexive (x ∷ xs) (inl h) = omega arith
before_irreflexive (x ∷ xs) (inr h) = before_irreflexive xs h.1

pub before_trans : (xs ys zs : List ℕ) → Before xs ys → Before ys zs → Before xs zs
before_trans [] [] zs h k = elim h [ ]
before_trans [] (y ∷ ys) [] h k = elim k [ ]
before_trans (x ∷ xs) [] zs h k = elim h [ ]
before_trans (x ∷ xs) (y ∷ ys) [] h k = elim k [ ]
before_trans [] (y ∷ ys) (z ∷ zs) h k = tt
before_trans (x ∷ xs) (y ∷ ys) (z ∷ zs) (inl h) (inl k) = inl (omega arith)
before_trans (x ∷ xs) (y ∷ ys) (z ∷ zs) (inl h) (inr k) = let e = k.0 in inl (omega arith)
before_trans (x ∷ xs) (y ∷ ys) (z ∷ zs) (inr h) (inl k) = let e = h.0 in inl (omega arith)
before_trans (x ∷ xs) (y ∷ ys) (z ∷ zs) (inr h) (inr k) = inr (h.0 ∙ k.0, before_trans xs ys zs h.1 k.1)

pub before-order : (xs ys : List ℕ) → Before xs ys → order xs ys ≡ Ordering.lt
before-order xs ys b = go (order xs ys) (ordered xs ys)
  where
    go : (o : Ordering) → Says Before xs ys o → o ≡ Ordering.lt
    go Ordering.lt s = refl
    go Ordering.eq s = absurd (before_irreflexive ys (subst (λ z. Before z ys) s b))
    go Ordering.gt s = absurd (before_irreflexive xs (before_trans xs ys xs b s))

pub order-before : (xs ys : List ℕ) → order xs ys ≡ Ordering.lt → Before xs ys
order-before xs ys e = subst (Says Before xs ys) e (ordered xs ys)
