-- The laws of partitions: their numbers are below the number of ways, and merging two classes leaves a partition whose number is no greater.
-- Assumes nothing.
use mathlib.Core.Bool.{Bool, true, false, false≢true, cond}
use mathlib.Core.List.{List, [], ◌∷◌, map}
use mathlib.Core.Logic.{◌⊎◌, ◌≢◌, inl, inr, ⊎_elim}
use mathlib.Core.Path.{◌≡◌, refl, sym, ap, subst, ◌∙◌}
use native.Mathlib.Decide.{ℕ_discrete, dec_le}
use native.Mathlib.Nat.{eq-or-lt_of_le, not-suc-le-zero, le_refl, mul-le-mul, mul-le-mul_right, suc-mul}
use native.Mathlib.Omega.{arith}
use Prim.Native.Nat.{ℕ, zero, suc, min, max, ◌+◌, ◌-◌, ◌*◌, ◌<◌, ◌≤◌}
use lib.Dec.{eqb, leb}
use lib.ListN.{length, get_or, drop, length-map, length-drop}
use lib.Seq.{drop-cons}
use borrow.Author.Tests.{eqb-true, leb-true, le-leb, eq-eqb, ne_eqb, lt-ltb, le-ltb}
use Rattle.steps_partitions.specs.Partition.{most_places, most_partitions, continuations, Growing, rank_from, rank, Partition, apart_from, merged_class, Cases, merged_at}

-- every number below n passes the test
unfoldable all_below : ℕ → (ℕ → Bool) → Bool
all_below zero f = true
all_below (suc n) f = cond (f n) (all_below n f) false

cond_both : (a b : Bool) → cond a b false ≡ true → (a ≡ true) × (b ≡ true)
cond_both true b e = (refl, e)
cond_both false b e = absurd (false≢true e)

below_all : (n : ℕ) (f : ℕ → Bool) → all_below n f ≡ true → (i : ℕ) → i < n → f i ≡ true
unfolding all_below
below_all zero f e i l = absurd (not-suc-le-zero l)
below_all (suc n) f e i l =
    let (a, b) = cond_both (f n) (all_below n f) e in
    ⊎_elim (λ (q : i ≡ n). ap f q ∙ a) (λ (h : i < n). below_all n f b i h) (eq-or-lt_of_le {n = i} {m = n} (omega arith))

-- the table of the code
abbrev pub way_table : List ℕ
way_table =
    1 ∷ 1 ∷ 1 ∷ 1 ∷ 1 ∷ 1 ∷ 1 ∷ 1 ∷ 1 ∷
    1 ∷ 2 ∷ 3 ∷ 4 ∷ 5 ∷ 6 ∷ 7 ∷ 8 ∷ 0 ∷
    2 ∷ 5 ∷ 10 ∷ 17 ∷ 26 ∷ 37 ∷ 50 ∷ 0 ∷ 0 ∷
    5 ∷ 15 ∷ 37 ∷ 77 ∷ 141 ∷ 235 ∷ 0 ∷ 0 ∷ 0 ∷
    15 ∷ 52 ∷ 151 ∷ 372 ∷ 799 ∷ 0 ∷ 0 ∷ 0 ∷ 0 ∷
    52 ∷ 203 ∷ 674 ∷ 1915 ∷ 0 ∷ 0 ∷ 0 ∷ 0 ∷ 0 ∷
    203 ∷ 877 ∷ 3263 ∷ 0 ∷ 0 ∷ 0 ∷ 0 ∷ 0 ∷ 0 ∷
    877 ∷ 4140 ∷ 0 ∷ 0 ∷ 0 ∷ 0 ∷ 0 ∷ 0 ∷ 0 ∷
    4140 ∷ 0 ∷ 0 ∷ 0 ∷ 0 ∷ 0 ∷ 0 ∷ 0 ∷ 0 ∷ []

unfoldable right_at : ℕ → ℕ → Bool
right_at r m = cond (leb (r + m) 8) (cond (eqb (get_or way_table (9 * r + m) 0) (continuations r m)) (leb (get_or way_table (9 * r + m) 0) 4140) false) true

right_table : all_below 9 (λ r. all_below 9 (right_at r)) ≡ true
unfolding all_below right_at continuations
right_table = refl

pub way_at : (r m : ℕ) → r + m ≤ most_places → (get_or way_table (9 * r + m) 0 ≡ continuations r m) × (continuations r m ≤ most_partitions)
unfolding right_at
way_at r m l =
    let h = below_all 9 (right_at r) (below_all 9 (λ r. all_below 9 (right_at r)) right_table r (omega arith)) m (omega arith) in
    let (a, b) = cond_both (eqb (get_or way_table (9 * r + m) 0) (continuations r m)) (leb (get_or way_table (9 * r + m) 0) 4140)
    (sym (ap (λ t. cond t (cond (eqb (get_or way_table (9 * r + m) 0) (continuations r m)) (leb (get_or way_table (9 * r + m) 0) 4140) false) true) (le-leb (r + m) 8 l)) ∙ h) in
    let e = eqb-true (get_or way_table (9 * r + m) 0) (continuations r m) a in
    (e, subst (λ x. x ≤ 4140) e (leb-true (get_or way_table (9 * r + m) 0) 4140 b))

pub some_way : (r m : ℕ) → 0 < continuations r m
unfolding continuations
some_way zero m = omega arith
some_way (suc r) m = omega (arith, some_way r (suc m))

pub more_ways : (r m k : ℕ) → m ≤ k → continuations r m ≤ continuations r k
unfolding continuations
more_ways zero m k l = omega arith
more_ways (suc r) m k l =
    omega (arith, mul-le-mul {n₁ = m} {m₁ = continuations r m} {n₂ = k} {m₂ = continuations r k} l (more_ways r m k l), more_ways r (suc m) (suc k) (omega arith))

-- The number is below the number of ways.
pub rank_below : (m : ℕ) (v : List ℕ) → Growing m v → rank_from m v < continuations (length v) m
unfolding continuations rank_from
rank_below m [] g = omega arith
rank_below m (c ∷ v) g = ⊎_elim
    (λ (e : c ≡ m). let x : max m (suc c) ≡ suc m = omega arith in
    let h = rank_below (max m (suc c)) v g.1 in
    go e (subst (λ i. rank_from (max m (suc c)) v < continuations (length v) i) x h))
    (λ (l : c < m). let x : max m (suc c) ≡ m = omega arith in
    let h = rank_below (max m (suc c)) v g.1 in
    let k = subst (λ i. rank_from (max m (suc c)) v < continuations (length v) i) x h in
    omega (arith, k, mul-le-mul_right {m = suc c} {n = m} (continuations (length v) m) l, suc-mul c (continuations (length v) m)))
    (eq-or-lt_of_le {n = c} {m = m} g.0)
  where
    go : c ≡ m → rank_from (max m (suc c)) v < continuations (length v) (suc m)
        → c * continuations (length v) m + rank_from (max m (suc c)) v < m * continuations (length v) m + continuations (length v) (suc m)
    go e h = omega (arith, h, ap (λ i. i * continuations (length v) m) e)

pub tail_below : (m c : ℕ) (v : List ℕ) → Growing m (c ∷ v) → c < m → rank_from (max m (suc c)) v < continuations (length v) m
tail_below m c v g l = let x : max m (suc c) ≡ m = omega arith in
    subst (λ i. rank_from (max m (suc c)) v < continuations (length v) i) x (rank_below (max m (suc c)) v g.1)

-- The partition with every place in a class of its own is the last one.
apart_size_lem : (r m : ℕ) → length (apart_from m r) ≡ r
unfolding apart_from
apart_size_lem zero m = refl
apart_size_lem (suc r) m = ap suc (apart_size_lem r (suc m))

apart_growing : (r m : ℕ) → Growing m (apart_from m r)
unfolding apart_from
apart_growing zero m = tt
apart_growing (suc r) m = let e : suc m ≡ max m (suc m) = omega arith in (le_refl m, subst (λ k. Growing k (apart_from (suc m) r)) e (apart_growing r (suc m)))

apart_rank : (r m : ℕ) → suc (rank_from m (apart_from m r)) ≡ continuations r m
unfolding apart_from rank_from continuations
apart_rank zero m = refl
apart_rank (suc r) m =
    let e : suc m ≡ max m (suc m) = omega arith in
    let x = ap (λ k. m * continuations k m) (apart_size_lem r (suc m)) in
    let y = ap (λ k. rank_from k (apart_from (suc m) r)) e in
    omega (arith, x, y, apart_rank r (suc m))

pub apart_partition : (n : ℕ) → Partition n (apart_from 0 n)
apart_partition n = record { size = apart_size_lem n 0; growing = apart_growing n 0 }

pub apart_last : (n : ℕ) → rank (apart_from 0 n) ≡ continuations n 0 - 1
apart_last n = omega (arith, apart_rank n 0)

pub apart_at : (r m j : ℕ) → j < r → get_or (apart_from m r) j 0 ≡ m + j
unfolding apart_from
apart_at zero m j l = absurd (not-suc-le-zero l)
apart_at (suc r) m zero l = omega arith
apart_at (suc r) m (suc j) l = apart_at r (suc m) j (omega arith) ∙ omega arith

pub partition_below : (n : ℕ) (v : List ℕ) → Partition n v → rank v < continuations n 0
partition_below n v p = subst (λ k. rank v < continuations k 0) p.size (rank_below 0 v p.growing)

-- The classes from place i on, one place further.
module _ (n : ℕ) (v : List ℕ) (size : length v ≡ n) (i : ℕ) (l : i < n) (m : ℕ) where
  further : drop i v ≡ get_or v i 0 ∷ drop (i + 1) v
  further = let e : suc i ≡ i + 1 = omega arith in drop-cons v i 0 (omega (arith, size)) ∙ ap (λ j. get_or v i 0 ∷ drop j v) e

  left : length (drop (i + 1) v) ≡ n - 1 - i
  left = omega (arith, length-drop (i + 1) v, size)

  pub grown : Growing m (drop i v) → (get_or v i 0 ≤ m) × Growing (max m (suc (get_or v i 0))) (drop (i + 1) v)
  grown g = subst (Growing m) further g

  pub ranked : rank_from m (drop i v) ≡ get_or v i 0 * continuations (n - 1 - i) m + rank_from (max m (suc (get_or v i 0))) (drop (i + 1) v)
  unfolding rank_from
  ranked = ap (rank_from m) further ∙ ap (λ k. get_or v i 0 * continuations k m + rank_from (max m (suc (get_or v i 0))) (drop (i + 1) v)) left

  pub ranked_below : Growing m (drop i v) → get_or v i 0 < m → rank_from (max m (suc (get_or v i 0))) (drop (i + 1) v) < continuations (n - 1 - i) m
  ranked_below g h =
      let x : max m (suc (get_or v i 0)) ≡ m = omega arith in
      let k = rank_below (max m (suc (get_or v i 0))) (drop (i + 1) v) (grown g).1 in
      subst (λ r. rank_from (max m (suc (get_or v i 0))) (drop (i + 1) v) < continuations (n - 1 - i) r) x
      (subst (λ r. rank_from (max m (suc (get_or v i 0))) (drop (i + 1) v) < continuations r (max m (suc (get_or v i 0)))) left k)

module _ (a b : ℕ) where
  pub merged-none : a ≡ b → (c : ℕ) → merged_class a b c ≡ c
  unfolding merged_class
  merged-none e c = simp (eq-eqb a b e)

  pub merged_greater : a ≢ b → (c : ℕ) → c ≡ max a b → merged_class a b c ≡ min a b
  unfolding merged_class
  merged_greater h c e = simp (ne_eqb a b h, eq-eqb c (max a b) e)

  pub merged-behind : a ≢ b → (c : ℕ) → max a b < c → merged_class a b c ≡ c - 1
  unfolding merged_class
  merged-behind h c l = let z : c ≢ max a b = λ e. omega arith in simp (ne_eqb a b h, ne_eqb c (max a b) z, lt-ltb (max a b) c l)

  pub merged-before : a ≢ b → (c : ℕ) → c < max a b → merged_class a b c ≡ c
  unfolding merged_class
  merged-before h c l = let z : c ≢ max a b = λ e. omega arith in simp (ne_eqb a b h, ne_eqb c (max a b) z, le-ltb (max a b) c (omega arith))

  pub merged_cases : a ≢ b → (c : ℕ) → Cases a b c (merged_class a b c)
  merged_cases h c = go (ℕ_discrete c (max a b)) (dec_le (max a b) c)
    where
      go : Dec (c ≡ max a b) → Dec (max a b ≤ c) → Cases a b c (merged_class a b c)
      go (yes e) d = inl (e, merged_greater h c e)
      go (no n) (yes l) = ⊎_elim (λ (e : max a b ≡ c). absurd (n (sym e))) (λ (k : max a b < c). inr (inl (k, merged-behind h c k))) (eq-or-lt_of_le l)
      go (no n) (no l) = let k : c < max a b = omega arith in inr (inr (k, merged-before h c k))

-- the number of classes once the classes lo and hi are merged
abbrev Shrunk : ℕ → ℕ → ℕ → Type 0
Shrunk hi m r = ((m ≤ hi) × (r ≡ m)) ⊎ ((hi < m) × (suc r ≡ m))

shrunk : (a b m r c d : ℕ) → a ≢ b → c ≤ m → Shrunk (max a b) m r → Cases a b c d → (d ≤ r) × Shrunk (max a b) (max m (suc c)) (max r (suc d))
shrunk a b m r c d n l (inl (h, e)) (inl (x, y)) = (omega (arith, n), inr (omega arith, omega (arith, n)))
shrunk a b m r c d n l (inl (h, e)) (inr (inl (x, y))) = absurd (omega arith)
shrunk a b m r c d n l (inl (h, e)) (inr (inr (x, y))) = (omega arith, inl (omega arith, omega arith))
shrunk a b m r c d n l (inr (h, e)) (inl (x, y)) = (omega arith, inr (omega arith, omega (arith, n)))
shrunk a b m r c d n l (inr (h, e)) (inr (inl (x, y))) = (omega arith, inr (omega arith, omega arith))
shrunk a b m r c d n l (inr (h, e)) (inr (inr (x, y))) = (omega arith, inr (omega arith, omega arith))

shrunk_le : (hi m r : ℕ) → Shrunk hi m r → r ≤ m
shrunk_le hi m r (inl (h, e)) = omega arith
shrunk_le hi m r (inr (h, e)) = omega arith

case_le : (a b c d : ℕ) → Cases a b c d → d ≤ c
case_le a b c d (inl (x, y)) = omega arith
case_le a b c d (inr (inl (x, y))) = omega arith
case_le a b c d (inr (inr (x, y))) = omega arith

module _ (a b : ℕ) (n : a ≢ b) where
  growing_merged : (v : List ℕ) (m r : ℕ) → Shrunk (max a b) m r → Growing m v → Growing r (map (merged_class a b) v)
  growing_merged [] m r s g = tt
  growing_merged (c ∷ v) m r s g =
      let (l, t) = shrunk a b m r c (merged_class a b c) n g.0 s (merged_cases a b n c) in
      (l, growing_merged v (max m (suc c)) (max r (suc (merged_class a b c))) t g.1)

  rank-merged : (v : List ℕ) (m r : ℕ) → Shrunk (max a b) m r → Growing m v → rank_from r (map (merged_class a b) v) ≤ rank_from m v
  unfolding rank_from
  rank-merged [] m r s g = omega arith
  rank-merged (c ∷ v) m r s g =
      let d = merged_class a b c in
      let (l, t) = shrunk a b m r c d n g.0 s (merged_cases a b n c) in
      let k = rank-merged v (max m (suc c)) (max r (suc d)) t g.1 in
      let e : continuations (length (map (merged_class a b) v)) r ≤ continuations (length v) m =
      subst (λ i. continuations i r ≤ continuations (length v) m) (sym (length-map v (merged_class a b))) (more_ways (length v) r m (shrunk_le (max a b) m r s)) in
      omega (arith, k, mul-le-mul {n₁ = d} {m₁ = continuations (length (map (merged_class a b) v)) r} {n₂ = c} {m₂ = continuations (length v) m} (case_le a b c d (merged_cases a b n c)) e)

map_same : (f : ℕ → ℕ) → ((c : ℕ) → f c ≡ c) → (v : List ℕ) → map f v ≡ v
map_same f h [] = refl
map_same f h (c ∷ v) = ap (◌∷ map f v) (h c) ∙ ap (c ∷◌) (map_same f h v)

-- Two classes become one exactly if they are one or the two that are merged.
module _ (a b : ℕ) where
  pub merged-both : merged_class a b a ≡ merged_class a b b
  merged-both = go (ℕ_discrete a b)
    where
      go : Dec (a ≡ b) → merged_class a b a ≡ merged_class a b b
      go (yes e) = ap (merged_class a b) e
      go (no n) = both n (merged_cases a b n a) (merged_cases a b n b)
        where
          both : a ≢ b → Cases a b a (merged_class a b a) → Cases a b b (merged_class a b b) → merged_class a b a ≡ merged_class a b b
          both n (inl (x, y)) (inl (z, w)) = y ∙ sym w
          both n (inl (x, y)) (inr (inl (z, w))) = absurd (omega arith)
          both n (inl (x, y)) (inr (inr (z, w))) = omega arith
          both n (inr (inl (x, y))) c = absurd (omega arith)
          both n (inr (inr (x, y))) (inl (z, w)) = omega arith
          both n (inr (inr (x, y))) (inr (inl (z, w))) = absurd (omega arith)
          both n (inr (inr (x, y))) (inr (inr (z, w))) = absurd (omega arith)

  -- c and d are one class once a and b are
  abbrev pub OneOf : ℕ → ℕ → Type 0
  OneOf c d = (c ≡ d) ⊎ ((c ≡ a) × (d ≡ b)) ⊎ ((c ≡ b) × (d ≡ a))

  two : (c d : ℕ) → c ≡ max a b → d ≡ min a b → OneOf c d
  two c d x y = go (dec_le a b)
    where
      go : Dec (a ≤ b) → OneOf c d
      go (yes l) = inr (inr (omega arith, omega arith))
      go (no l) = inr (inl (omega arith, omega arith))

  turned : (c d : ℕ) → OneOf c d → OneOf d c
  turned c d (inl e) = inl (sym e)
  turned c d (inr (inl (x, y))) = inr (inr (y, x))
  turned c d (inr (inr (x, y))) = inr (inl (y, x))

  pub merged_one : (c d : ℕ) → merged_class a b c ≡ merged_class a b d → OneOf c d
  merged_one c d e = go (ℕ_discrete a b)
    where
      each : a ≢ b → Cases a b c (merged_class a b c) → Cases a b d (merged_class a b d) → OneOf c d
      each n (inl (x, y)) (inl (z, w)) = inl (x ∙ sym z)
      each n (inl (x, y)) (inr (inl (z, w))) = absurd (omega (arith, n))
      each n (inl (x, y)) (inr (inr (z, w))) = two c d x (sym w ∙ sym e ∙ y)
      each n (inr (inl (x, y))) (inl (z, w)) = absurd (omega (arith, n))
      each n (inr (inl (x, y))) (inr (inl (z, w))) = inl (omega arith)
      each n (inr (inl (x, y))) (inr (inr (z, w))) = absurd (omega arith)
      each n (inr (inr (x, y))) (inl (z, w)) = turned d c (two d c z (sym y ∙ e ∙ w))
      each n (inr (inr (x, y))) (inr (inl (z, w))) = absurd (omega arith)
      each n (inr (inr (x, y))) (inr (inr (z, w))) = inl (sym y ∙ e ∙ w)

      go : Dec (a ≡ b) → OneOf c d
      go (yes x) = inl (sym (merged-none a b x c) ∙ e ∙ merged-none a b x d)
      go (no n) = each n (merged_cases a b n c) (merged_cases a b n d)

module _ (n : ℕ) (v : List ℕ) (i j : ℕ) where
  -- Nothing is merged within a class.
  pub merged-same : get_or v i 0 ≡ get_or v j 0 → merged_at v i j ≡ v
  unfolding merged_at
  merged-same e = map_same (merged_class (get_or v i 0) (get_or v j 0)) (merged-none (get_or v i 0) (get_or v j 0) e) v

  -- Merged places are a partition again,
  pub merged_partition : Partition n v → Partition n (merged_at v i j)
  unfolding merged_at
  merged_partition p = go (ℕ_discrete (get_or v i 0) (get_or v j 0))
    where
      go : Dec (get_or v i 0 ≡ get_or v j 0) → Partition n (merged_at v i j)
      go (yes e) = subst (Partition n) (sym (merged-same e)) p
      go (no h) = record {
        size = length-map v (merged_class (get_or v i 0) (get_or v j 0)) ∙ p.size;
        growing = growing_merged (get_or v i 0) (get_or v j 0) h v 0 0 (inl (omega arith, refl)) p.growing;
      }

  -- whose number is no greater.
  pub merged-rank : Partition n v → rank (merged_at v i j) ≤ rank v
  unfolding merged_at
  merged-rank p = go (ℕ_discrete (get_or v i 0) (get_or v j 0))
    where
      go : Dec (get_or v i 0 ≡ get_or v j 0) → rank (merged_at v i j) ≤ rank v
      go (yes e) = subst (λ w. rank w ≤ rank v) (sym (merged-same e)) (le_refl (rank v))
      go (no h) = rank-merged (get_or v i 0) (get_or v j 0) h v 0 0 (inl (omega arith, refl)) p.growing
