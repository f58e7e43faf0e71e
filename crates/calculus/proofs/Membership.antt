-- Membership in a list, and what holds of every member. Assumes nothing.
use mathlib.Core.List.{List, [], ◌∷◌, ◌++◌, map}
use mathlib.Core.Logic.{◌⊎◌, inl, inr}
use mathlib.Core.Path.{◌≡◌, refl, sym, ◌∙◌, ap, subst}
use native.Mathlib.Omega.{arith}
use Prim.Native.Nat.{ℕ, zero, suc, ◌<◌, ◌≤◌}
use lib.ListN.{length, get_or, take}
use Rattle.calculus.specs.Lists.{◌∈◌, Among, All, Distinct}

module _ {A : Type 0} where
  pub ∈-left : (x : A) (xs ys : List A) → x ∈ xs → x ∈ (xs ++ ys)
  ∈-left x [] ys x'' = elim x'' [ ]
  ∈-left x (y ∷ xs) ys (inl e) = inl e
  ∈-left x (y ∷ xs) ys (inr m) = inr (∈-left x xs ys m)

  pub ∈_right : (x : A) (xs ys : List A) → x ∈ ys → x ∈ (xs ++ ys)
  ∈_right x [] ys m = m
  ∈_right x (y ∷ xs) ys m = inr (∈_right x xs ys m)

  pub ∈_either : (x : A) (xs ys : List A) → x ∈ (xs ++ ys) → (x ∈ xs) ⊎ (x ∈ ys)
  ∈_either x [] ys m = inr m
  ∈_either x (y ∷ xs) ys (inl e) = inl (inl e)
  ∈_either x (y ∷ xs) ys (inr m) = go (∈_either x xs ys m)
    where
      go : (x ∈ xs) ⊎ (x ∈ ys) → (x ∈ (y ∷ xs)) ⊎ (x ∈ ys)
      go (inl n) = inl (inr n)
      go (inr n) = inr n

  pub ∈_nth : (xs : List A) (i : ℕ) (d : A) → i < length xs → get_or xs i d ∈ xs
  ∈_nth [] i d h = absurd (omega arith)
  ∈_nth (x ∷ xs) zero d h = inl refl
  ∈_nth (x ∷ xs) (suc i) d h = inr (∈_nth xs i d (omega arith))

  pub within_either : (xs ys zs : List A) → Among xs zs → Among ys zs → Among (xs ++ ys) zs
  within_either xs ys zs h k x m = go (∈_either x xs ys m)
    where
      go : (x ∈ xs) ⊎ (x ∈ ys) → x ∈ zs
      go (inl n) = h x n
      go (inr n) = k x n

  pub all-++ : (S : A → Type 0) (xs ys : List A) → All S xs → All S ys → All S (xs ++ ys)
  all-++ S [] ys a b = b
  all-++ S (x ∷ xs) ys a b = (a.0, all-++ S xs ys a.1 b)

  pub all_imp : (S R : A → Type 0) (xs : List A) → ((x : A) → S x → R x) → All S xs → All R xs
  all_imp S R [] h a = tt
  all_imp S R (x ∷ xs) h a = (h x a.0, all_imp S R xs h a.1)

  pub all-∈ : (S : A → Type 0) (xs : List A) → All S xs → (x : A) → x ∈ xs → S x
  all-∈ S [] a x x4 = elim x4 [ ]
  all-∈ S (y ∷ xs) a x (inl e) = subst S (sym e) a.0
  all-∈ S (y ∷ xs) a x (inr m) = all-∈ S xs a.1 x m

  pub ∈-all : (S : A → Type 0) (xs : List A) → ((x : A) → x ∈ xs → S x) → All S xs
  ∈-all S [] h = tt
  ∈-all S (x ∷ xs) h = (h x (inl refl), ∈-all S xs (λ y m. h y (inr m)))

  -- a list without one member
  without : (xs : List A) (x : A) → x ∈ xs → List A
  without [] x x3 = elim x3 [ ]
  without (y ∷ xs) x (inl e) = xs
  without (y ∷ xs) x (inr m) = y ∷ without xs x m

  length_without : (xs : List A) (x : A) (m : x ∈ xs) → length xs ≡ suc (length (without xs x m))
  unfolding without
  length_without [] x m = elim m [ ]
  length_without (y ∷ xs) x (inl e) = refl
  length_without (y ∷ xs) x (inr m) = ap suc (length_without xs x m)

  ∈_without : (xs : List A) (x : A) (m : x ∈ xs) (y : A) → ¬ (y ≡ x) → y ∈ xs → y ∈ without xs x m
  unfolding without
  ∈_without [] x m y h _ = elim m [ ]
  ∈_without (z ∷ xs) x (inl e) y h (inl d) = absurd (h (d ∙ sym e))
  ∈_without (z ∷ xs) x (inl e) y h (inr n) = n
  ∈_without (z ∷ xs) x (inr m) y h (inl d) = inl d
  ∈_without (z ∷ xs) x (inr m) y h (inr n) = inr (∈_without xs x m y h n)

  -- distinct members of a list are no more than its members
  pub distinct_length : (xs ys : List A) → Distinct xs → ((x : A) → x ∈ xs → x ∈ ys) → length xs ≤ length ys
  distinct_length [] ys d h = omega arith
  distinct_length (x ∷ xs) ys d h =
      let m = h x (inl refl) in
      let l = length_without ys x m in
      let k : length xs ≤ length (without ys x m) =
      distinct_length xs (without ys x m) d.1
      (λ y n. ∈_without ys x m y (λ e. d.0 (subst (λ z. z ∈ xs) e n)) (h y (inr n))) in
      omega arith

module _ {A B : Type 0} (f : A → B) where
  pub ∈-map : (x : A) (xs : List A) → x ∈ xs → f x ∈ map f xs
  ∈-map x [] x'' = elim x'' [ ]
  ∈-map x (y ∷ xs) (inl e) = inl (ap f e)
  ∈-map x (y ∷ xs) (inr m) = inr (∈-map x xs m)

  pub ∈-mapped : (y : B) (xs : List A) → y ∈ map f xs → (x : A) × (x ∈ xs) × (y ≡ f x)
  ∈-mapped y [] x' = elim x' [ ]
  ∈-mapped y (x ∷ xs) (inl e) = (x, inl refl, e)
  ∈-mapped y (x ∷ xs) (inr m) = let (z, n, e) = ∈-mapped y xs m in (z, inr n, e)

  pub take-map : (n : ℕ) (xs : List A) → take n (map f xs) ≡ map f (take n xs)
  take-map zero xs = refl
  take-map (suc n) [] = refl
  take-map (suc n) (x ∷ xs) = ap (λ l. f x ∷ l) (take-map n xs)

  pub within_map : (xs ys : List A) → Among xs ys → Among (map f xs) (map f ys)
  within_map xs ys h y m =
      let (x, n, e) = ∈-mapped y xs m in subst (λ z. z ∈ map f ys) (sym e) (∈-map x ys (h x n))

  pub all_map : (S : A → Type 0) (R : B → Type 0) (xs : List A) → ((x : A) → S x → R (f x)) → All S xs → All R (map f xs)
  all_map S R [] h a = tt
  all_map S R (x ∷ xs) h a = (h x a.0, all_map S R xs h a.1)
