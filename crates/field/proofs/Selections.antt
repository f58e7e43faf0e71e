-- Members of a selection from a list. Assumes nothing.
use mathlib.Core.Bool.{Bool, true, false, cond}
use mathlib.Core.List.{List, [], ◌∷◌}
use mathlib.Core.Logic.{inl, inr}
use mathlib.Core.Path.{◌≡◌, refl, ◌∙◌, ap}
use native.Mathlib.Omega.{arith}
use Prim.Native.Nat.{ℕ}
use Rattle.calculus.specs.Cond.{Pairs}
use Rattle.calculus.specs.Distinction.{keep}
use Rattle.calculus.specs.Lists.{◌∈◌}
use Rattle.field.specs.Successors.{select}

module _ {A : Type 0} where
  pub ∈-select : (f : A → Bool) (x : A) (xs : List A) → x ∈ xs → f x ≡ true → x ∈ select f xs
  unfolding select
  ∈-select f x [] m e = elim m [ ]
  ∈-select f x (y ∷ xs) m e = go (f y) refl m (λ n. ∈-select f x xs n e)
    where
      go : (b : Bool) → f y ≡ b → x ∈ (y ∷ xs) → (x ∈ xs → x ∈ select f xs) → x ∈ cond b (y ∷ select f xs) (select f xs)
      go true h (inl k) r = inl k
      go true h (inr n) r = inr (r n)
      go false h (inl k) r = let z : ◌≡◌ {A = ℕ} 0 1 = cc (ap f k) in absurd (omega arith)
      go false h (inr n) r = r n

  pub select-∈ : (f : A → Bool) (x : A) (xs : List A) → x ∈ select f xs → (x ∈ xs) × (f x ≡ true)
  unfolding select
  select-∈ f x [] m = elim m [ ]
  select-∈ f x (y ∷ xs) m = go (f y) refl m (λ n. select-∈ f x xs n)
    where
      go : (b : Bool) → f y ≡ b → x ∈ cond b (y ∷ select f xs) (select f xs) → (x ∈ select f xs → (x ∈ xs) × (f x ≡ true))
          → (x ∈ (y ∷ xs)) × (f x ≡ true)
      go true h (inl k) r = (inl k, ap f k ∙ h)
      go true h (inr n) r = let (m, e) = r n in (inr m, e)
      go false h n r = let (m, e) = r n in (inr m, e)

  -- tests that agree on the members select the same
  pub select-same : (f g : A → Bool) (xs : List A) → ((x : A) → x ∈ xs → f x ≡ g x) → select f xs ≡ select g xs
  unfolding select
  select-same f g [] h = refl
  select-same f g (x ∷ xs) h =
      λ i. cond (h x (inl refl) i) (x ∷ select-same f g xs (λ y m. h y (inr m)) i) (select-same f g xs (λ y m. h y (inr m)) i)

-- the calculus' selection of pairs
pub keep-select : (f : ℕ → ℕ → Bool) (D : Pairs) → keep f D ≡ select (λ p. f p.0 p.1) D
unfolding keep select
keep-select f [] = refl
keep-select f (p ∷ D) = ap (λ E. cond (f p.0 p.1) (p ∷ E) E) (keep-select f D)
