-- Members of joined and of mapped lists, members by their numbers, and when a joined list is distinct. Assumes nothing.
use mathlib.Core.List.{List, [], ◌∷◌, ◌++◌, map}
use mathlib.Core.Logic.{◌⊎◌, inl, inr}
use mathlib.Core.Path.{◌≡◌, refl}
use native.Mathlib.Omega.{arith}
use Prim.Native.Nat.{ℕ, zero, suc, ◌<◌}
use lib.ListN.{length, get_or}
use Rattle.calculus.specs.Lists.{◌∈◌, Distinct}

module _ {A : Type 0} where
  pub ∈_either : (x : A) (xs ys : List A) → x ∈ (xs ++ ys) → (x ∈ xs) ⊎ (x ∈ ys)
  ∈_either x [] ys m = inr m
  ∈_either x (y ∷ xs) ys (inl e) = inl (inl e)
  ∈_either x (y ∷ xs) ys (inr m) = go (∈_either x xs ys m)
    where
      go : (x ∈ xs) ⊎ (x ∈ ys) → (x ∈ (y ∷ xs)) ⊎ (x ∈ ys)
      go (inl n) = inl (inr n)
      go (inr n) = inr n

  -- the member of number i, and the number of a member
  pub get_d_∈ : (xs : List A) (i : ℕ) (d : A) → i < length xs → get_or xs i d ∈ xs
  get_d_∈ [] i d h = absurd (omega arith)
  get_d_∈ (x ∷ xs) zero d h = inl refl
  get_d_∈ (x ∷ xs) (suc i) d h = inr (get_d_∈ xs i d (omega arith))

  pub get_d_within : (xs : List A) (i : ℕ) (d e : A) → i < length xs → get_or xs i d ≡ get_or xs i e
  get_d_within [] i d e h = absurd (omega arith)
  get_d_within (x ∷ xs) zero d e h = refl
  get_d_within (x ∷ xs) (suc i) d e h = get_d_within xs i d e (omega arith)

  pub ∈-number : (x : A) (xs : List A) → x ∈ xs → (i : ℕ) × (i < length xs) × ((d : A) → x ≡ get_or xs i d)
  ∈-number x [] x'' = elim x'' [ ]
  ∈-number x (y ∷ xs) (inl e) = (0, omega arith, λ d. e)
  ∈-number x (y ∷ xs) (inr m) = let (i, l, e) = ∈-number x xs m in (suc i, omega arith, e)

  pub distinct_++ : (xs ys : List A) → Distinct xs → Distinct ys → ((x : A) → x ∈ xs → ¬ (x ∈ ys)) → Distinct (xs ++ ys)
  distinct_++ [] ys d e h = e
  distinct_++ (x ∷ xs) ys d e h = (λ m. go (∈_either x xs ys m), distinct_++ xs ys d.1 e (λ y n. h y (inr n)))
    where
      go : (x ∈ xs) ⊎ (x ∈ ys) → ⊥
      go (inl m) = d.0 m
      go (inr m) = h x (inl refl) m

module _ {A B : Type 0} (f : A → B) where
  pub map-∈ : (y : B) (xs : List A) → y ∈ map f xs → (x : A) × (x ∈ xs) × (y ≡ f x)
  map-∈ y [] x' = elim x' [ ]
  map-∈ y (x ∷ xs) (inl e) = (x, inl refl, e)
  map-∈ y (x ∷ xs) (inr m) = let (z, n, e) = map-∈ y xs m in (z, inr n, e)
