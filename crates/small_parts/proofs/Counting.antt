-- Lists without repeats: crossed, selected from, mapped; what they count.
use mathlib.Core.Path.{◌≡◌, refl, sym, ap, subst}
use mathlib.Core.Bool.{Bool, true, false, cond}
use mathlib.Core.List.{List, [], ◌∷◌, ◌++◌, map}
use mathlib.Core.Logic.{◌⊎◌, inl, inr}
use Prim.Native.Nat.{ℕ, ◌*◌}
use native.Mathlib.Omega.{arith}
use native.Mathlib.Nat.{suc-mul, zero-mul}
use lib.ListN.{length, length-append, length-map}
use Rattle.calculus.specs.Lists.{◌∈◌, Distinct}
use Rattle.calculus.proofs.Membership.{∈-left, ∈_right, ∈_either, ∈-map, ∈-mapped, distinct_length}
use Rattle.field.specs.Successors.{select}
use Rattle.field.proofs.Members.{distinct_++}
use Rattle.field.proofs.Selections.{select-∈}
use Rattle.small_parts.specs.Counted.{Counted}

module _ {A : Type 0} where
  unfoldable pub join_all : List (List A) → List A
  join_all [] = []
  join_all (xs ∷ xss) = xs ++ join_all xss

  pub ∈-join : (x : A) (xs : List A) (xss : List (List A)) → x ∈ xs → xs ∈ xss → x ∈ join_all xss
  unfolding join_all
  ∈-join x xs [] i x3 = elim x3 [ ]
  ∈-join x xs (ys ∷ xss) i (inl e) = ∈-left x ys (join_all xss) (subst (λ zs. x ∈ zs) e i)
  ∈-join x xs (ys ∷ xss) i (inr j) = ∈_right x ys (join_all xss) (∈-join x xs xss i j)

  pub distinct_select : (f : A → Bool) (xs : List A) → Distinct xs → Distinct (select f xs)
  unfolding select
  distinct_select f [] d = tt
  distinct_select f (x ∷ xs) d = go (distinct_select f xs d.1) (f x)
    where
      go : Distinct (select f xs) → (b : Bool) → Distinct (cond b (x ∷ select f xs) (select f xs))
      go r true = (λ m. d.0 (select-∈ f x xs m).0, r)
      go r false = r

  -- nothing passes the test
  pub none_selected : (f : A → Bool) (xs : List A) → ((x : A) → x ∈ xs → f x ≡ false) → length (select f xs) ≡ 0
  unfolding select
  none_selected f [] h = refl
  none_selected f (x ∷ xs) h = rw (h x (inl refl)) (none_selected f xs (λ y m. h y (inr m)))

  -- what has a property is counted by one number
  pub counted_once : (Has : A → Type 0) (n m : ℕ) → Counted Has n → Counted Has m → n ≡ m
  counted_once Has n m c d =
      omega (
        arith,
        c.number,
        d.number,
        distinct_length c.all d.all c.distinct (λ a i. (d.members a).1 ((c.members a).0 i)),
        distinct_length d.all c.all d.distinct (λ a i. (c.members a).1 ((d.members a).0 i)),
      )

module _ {A B : Type 0} where
  pub distinct_map : (f : A → B) (xs : List A) → ((x y : A) → x ∈ xs → y ∈ xs → f x ≡ f y → x ≡ y) → Distinct xs → Distinct (map f xs)
  distinct_map f [] h d = tt
  distinct_map f (x ∷ xs) h d = (
    λ m. let (y, i, e) = ∈-mapped f (f x) xs m in d.0 (subst (λ z. z ∈ xs) (sym (h x y (inl refl) (inr i) e)) i),
    distinct_map f xs (λ y z i j. h y z (inr i) (inr j)) d.1,
  )

module _ {A B C : Type 0} where
  -- every x with every y
  unfoldable pub crossed : (A → B → C) → List A → List B → List C
  crossed f [] ys = []
  crossed f (x ∷ xs) ys = map (f x) ys ++ crossed f xs ys

  pub ∈-crossed : (f : A → B → C) (xs : List A) (ys : List B) (x : A) (y : B) → x ∈ xs → y ∈ ys → f x y ∈ crossed f xs ys
  unfolding crossed
  ∈-crossed f [] ys x y x4 j = elim x4 [ ]
  ∈-crossed f (z ∷ xs) ys x y (inl e) j =
      ∈-left (f x y) (map (f z) ys) (crossed f xs ys) (subst (λ w. f x y ∈ map (f w) ys) e (∈-map (f x) y ys j))
  ∈-crossed f (z ∷ xs) ys x y (inr i) j = ∈_right (f x y) (map (f z) ys) (crossed f xs ys) (∈-crossed f xs ys x y i j)

  pub length-crossed : (f : A → B → C) (xs : List A) (ys : List B) → length (crossed f xs ys) ≡ length xs * length ys
  unfolding crossed
  length-crossed f [] ys = sym (zero-mul (length ys))
  length-crossed f (x ∷ xs) ys =
      omega (arith, length-append (map (f x) ys) (crossed f xs ys), length-map ys (f x), length-crossed f xs ys, suc-mul (length xs) (length ys))

module _ {A B : Type 0} where
  -- all ordered pairs
  abbrev pub pairs : List A → List B → List (A × B)
  pairs = crossed (λ x y. (x, y))

  pub crossed-∈ : (xs : List A) (ys : List B) (p : A × B) → p ∈ pairs xs ys → (p.0 ∈ xs) × (p.1 ∈ ys)
  unfolding crossed
  crossed-∈ [] ys p m = elim m [ ]
  crossed-∈ (x ∷ xs) ys p m = go (∈_either p (map (λ y. (x, y)) ys) (pairs xs ys) m) (crossed-∈ xs ys p)
    where
      go : (p ∈ map (λ y. (x, y)) ys) ⊎ (p ∈ pairs xs ys) → (p ∈ pairs xs ys → (p.0 ∈ xs) × (p.1 ∈ ys)) → (p.0 ∈ (x ∷ xs)) × (p.1 ∈ ys)
      go (inl i) r =
          let (y, j, e) = ∈-mapped (λ y. (x, y)) p ys i in
          (inl (ap (λ q. q.0) e), subst (λ z. z ∈ ys) (sym (ap (λ q. q.1) e)) j)
      go (inr i) r = let (j, k) = r i in (inr j, k)

  pub distinct_pairs : (xs : List A) (ys : List B) → Distinct xs → Distinct ys → Distinct (pairs xs ys)
  unfolding crossed
  distinct_pairs [] ys d e = tt
  distinct_pairs (x ∷ xs) ys d e =
      distinct_++ (map (λ y. (x, y)) ys) (pairs xs ys) (distinct_map (λ y. (x, y)) ys (λ y z i j q. ap (λ p. p.1) q) e)
      (distinct_pairs xs ys d.1 e)
      (λ p m n. let (y, j, q) = ∈-mapped (λ y. (x, y)) p ys m in
      d.0 (subst (λ z. z ∈ xs) (ap (λ r. r.0) q) (crossed-∈ xs ys p n).0))
