-- The number of a partition, place by place, and the partition of a number. Assumes nothing.
use mathlib.Core.List.{List, [], ◌∷◌}
use mathlib.Core.Logic.{◌≢◌, inl, inr, ⊎_elim}
use mathlib.Core.Path.{◌≡◌, refl, sym, ap, subst, ◌∙◌}
use native.Mathlib.Nat.{eq-or-lt_of_le, not-suc-le-zero, le_trans, mul-le-mul, mul-le-mul_right, div-mul-le_self, mul-add-div_right, div-eq_of_lt}
use native.Mathlib.Omega.{arith}
use borrow.Author.Count.{below_more}
use Prim.Native.Nat.{ℕ, suc, min, max, ◌+◌, ◌-◌, ◌*◌, ◌/◌, ◌<◌, ◌≤◌}
use lib.ListN.{length, get_or, drop, set}
use lib.Seq.{get_or-set_same, get_or-set_other, drop-length}
use Rattle.terms_bytes.proofs.Stores.{get_d_map}
use Rattle.steps_partitions.specs.Partition.{most_places, continuations, Growing, rank_from, rank, Partition, merged_class, Cases, merged_at, Begins, ClassWeightIs, ClassIs, RankIs, UnrankIs, MergeIs, MergedRowIs}
use Rattle.steps_partitions.proofs.PartitionLaws.{way_at, some_way, tail_below, grown, ranked, ranked_below, merged_greater, merged-behind, merged-before, merged-same, merged_partition}

-- What a class adds is small.
pub class_weight_is : (c rest m w r : ℕ) → c ≤ 255 → rest + m ≤ most_places → w ≡ continuations rest m → r ≡ c * w → ClassWeightIs c rest m r
class_weight_is c rest m w r few l e f = record {
  few = omega (arith, f, mul-le-mul {n₁ = c} {m₁ = w} {n₂ = 255} {m₂ = 4140} few (subst (λ x. x ≤ 4140) (sym e) (way_at rest m l).1));
  is = f ∙ ap (λ x. c * x) e;
}

module _ (l : List ℕ) (n : ℕ) where
  -- the number so far, with the places from i on to come behind m classes
  unfoldable pub Ranked : ℕ → ℕ → ℕ → Type 0
  Ranked i m r = (v : List ℕ) → Partition n v → Begins l n v → (m ≤ i) × Growing m (drop i v) × (r + rank_from m (drop i v) ≡ rank v)

  pub rank-start : Ranked 0 0 0
  unfolding Ranked
  rank-start v p b = (omega arith, p.growing, omega arith)

  pub rank-more : (i m r c p : ℕ) → i < n → c ≡ get_or l i 0 → p ≡ c * continuations (n - 1 - i) m → Ranked i m r → Ranked (i + 1) (max m (c + 1)) (r + p)
  unfolding Ranked Begins
  rank-more i m r c p h e f R v P b =
      let (few, g, x) = R v P b in
      let z : get_or v i 0 ≡ c = sym (e ∙ b i h) in
      let s : suc c ≡ c + 1 = omega arith in
      let y = grown n v P.size i h m g in
      let w = subst (λ k. rank_from m (drop i v) ≡ k * continuations (n - 1 - i) m + rank_from (max m (suc k)) (drop (i + 1) v)) z (ranked n v P.size i h m) in
      let u = subst (λ k. rank_from m (drop i v) ≡ c * continuations (n - 1 - i) m + rank_from (max m k) (drop (i + 1) v)) s w in (
        (let q = subst (λ k. k ≤ m) z y.0 in omega arith),
        subst (λ k. Growing (max m k) (drop (i + 1) v)) s (subst (λ k. Growing (max m (suc k)) (drop (i + 1) v)) z y.1),
        omega (arith, x, u, f),
      )

  pub rank-all : (i m r : ℕ) → n ≤ i → i ≤ n → Ranked i m r → RankIs l n r
  unfolding Ranked RankIs rank_from
  rank-all i m r h k R v P b =
      let z : i ≡ length v = omega (arith, P.size) in
      let e : drop i v ≡ _ = ap (λ j. drop j v) z ∙ drop-length v in
      let x = (R v P b).2 in
      omega (arith, subst (λ w. r + rank_from m w ≡ rank v) e x)

  pub rank-none : (i m r : ℕ) → i < m → Ranked i m r → RankIs l n 0
  unfolding Ranked RankIs
  rank-none i m r h R v P b = absurd (omega (arith, (R v P b).0))

-- The class of a place.
pub class_is : (left size m r : ℕ) → 0 < size → r ≡ min m (left / size) → ClassIs left size m r
class_is left size m r pos e = record {
  few = omega arith;
  below = le_trans (mul-le-mul_right {m = r} {n = left / size} size (omega arith)) (div-mul-le_self left size);
  is = λ c y x l h.
      let q : left / size ≡ c + y / size = ap (λ k. k / size) x ∙ mul-add-div_right pos c y in
      ⊎_elim (λ (f : c ≡ m). omega (arith, q)) (λ (f : c < m). omega (arith, q, div-eq_of_lt (h f))) (eq-or-lt_of_le {n = c} {m = m} l);
}

-- Two partitions do not have one number.
pub rank_once : (m : ℕ) (v w : List ℕ) → Growing m v → Growing m w → length v ≡ length w → rank_from m v ≡ rank_from m w → v ≡ w
unfolding rank_from
rank_once m [] [] g h l e = refl
rank_once m [] (d ∷ w) g h l e = absurd (omega arith)
rank_once m (c ∷ v) [] g h l e = absurd (omega arith)
rank_once m (c ∷ v) (d ∷ w) g h l e =
    let n : length w ≡ length v = omega arith in
    let f : rank_from m (c ∷ v) ≡ d * continuations (length v) m + rank_from (max m (suc d)) w = e ∙ ap (λ k. d * continuations k m + rank_from (max m (suc d)) w) n in
    let C = class_is (rank_from m (c ∷ v)) (continuations (length v) m) m _ (some_way (length v) m) refl in
    let x : c ≡ d = sym (C.is c (rank_from (max m (suc c)) v) refl g.0 (λ o. tail_below m c v g o))
    ∙ C.is d (rank_from (max m (suc d)) w) f h.0 (λ o. subst (λ k. rank_from (max m (suc d)) w < continuations k m) n (tail_below m d w h o)) in
    let y : rank_from (max m (suc c)) v ≡ rank_from (max m (suc c)) w = omega (arith, f, ap (λ k. k * continuations (length v) m) x, ap (λ k. rank_from (max m (suc k)) w) x) in
    ap (◌∷ v) x ∙ ap (d ∷◌) (rank_once (max m (suc c)) v w g.1 (subst (λ k. Growing (max m (suc k)) w) (sym x) h.1) (sym n) y)

module _ (row n : ℕ) where
  -- the classes so far, and the number left for the places from i on
  unfoldable pub Unranked : ℕ → ℕ → ℕ → List ℕ → Type 0
  Unranked i m x l = (v : List ℕ) → Partition n v → rank v ≡ row → Growing m (drop i v) × (rank_from m (drop i v) ≡ x) × Begins l i v

  pub unrank_start : (l : List ℕ) → Unranked 0 0 row l
  unfolding Unranked Begins
  unrank_start l v P e = (P.growing, e, λ j h. absurd (not-suc-le-zero h))

  pub unrank_more : (i m x : ℕ) (l : List ℕ) (d c : ℕ) → i < n → i < length l → d ≡ continuations (n - 1 - i) m → ClassIs x d m c → Unranked i m x l
      → Unranked (i + 1) (max m (c + 1)) (x - c * d) (set l i c)
  unfolding Unranked Begins
  unrank_more i m x l d c h k e C U v P f =
      let (g, y, b) = U v P f in
      let s : suc c ≡ c + 1 = omega arith in
      let G = grown n v P.size i h m g in
      let w : x ≡ get_or v i 0 * d + rank_from (max m (suc (get_or v i 0))) (drop (i + 1) v) = sym y ∙ ranked n v P.size i h m
      ∙ ap (λ t. get_or v i 0 * t + rank_from (max m (suc (get_or v i 0))) (drop (i + 1) v)) (sym e) in
      let z : c ≡ get_or v i 0 = C.is (get_or v i 0) (rank_from (max m (suc (get_or v i 0))) (drop (i + 1) v)) w G.0
      (λ o. subst (λ t. rank_from (max m (suc (get_or v i 0))) (drop (i + 1) v) < t) (sym e) (ranked_below n v P.size i h m g o)) in
      let u : rank_from (max m (suc (get_or v i 0))) (drop (i + 1) v) ≡ x - c * d = omega (arith, w, ap (λ t. t * d) z) in
      let t : suc (get_or v i 0) ≡ c + 1 = omega (arith, z) in (
        subst (λ q. Growing (max m q) (drop (i + 1) v)) t G.1,
        subst (λ q. rank_from (max m q) (drop (i + 1) v) ≡ x - c * d) t u,
        below_more (λ (j : ℕ). get_or (set l i c) j 0 ≡ get_or v j 0) i (λ j q. get_or-set_other l i j c 0 (λ o. omega arith) ∙ b j q)
            (get_or-set_same l i c 0 k ∙ z),
      )

  pub unrank_all : (i m x : ℕ) (l : List ℕ) → n ≤ i → Unranked i m x l → UnrankIs row n l
  unfolding Unranked UnrankIs Begins
  unrank_all i m x l h U v P e j q = (U v P e).2 j (omega arith)

-- A class once two are merged.
pub merged_is : (a b : ℕ) → a ≢ b → (c r : ℕ) → Cases a b c r → r ≡ merged_class a b c
merged_is a b h c r (inl (x, e)) = e ∙ sym (merged_greater a b h c x)
merged_is a b h c r (inr (inl (x, e))) = e ∙ sym (merged-behind a b h c x)
merged_is a b h c r (inr (inr (x, e))) = e ∙ sym (merged-before a b h c x)

pub swapped : (a b c r : ℕ) → Cases b a c r → Cases a b c r
swapped a b c r (inl (x, e)) = inl (omega arith, omega arith)
swapped a b c r (inr (inl (x, e))) = inr (inl (omega arith, e))
swapped a b c r (inr (inr (x, e))) = inr (inr (omega arith, e))

module _ (l : List ℕ) (a b : ℕ) where
  pub merge_none : (r : List ℕ) → MergeIs l 0 a b r
  unfolding MergeIs
  merge_none r j h = absurd (not-suc-le-zero h)

  pub merge_more : (n : ℕ) (r : List ℕ) (x : ℕ) → n < length r → x ≡ merged_class a b (get_or l n 0) → MergeIs l n a b r → MergeIs l (n + 1) a b (set r n x)
  unfolding MergeIs
  merge_more n r x h e M = below_more (λ (j : ℕ). get_or (set r n x) j 0 ≡ merged_class a b (get_or l j 0)) n
      (λ j q. get_or-set_other r n j x 0 (λ z. omega arith) ∙ M j q) (get_or-set_same r n x 0 h ∙ e)

-- The number of the merged partition.
module _ (row n i j : ℕ) (classes : List ℕ) (U : UnrankIs row n classes) (li : i < n) (lj : j < n) (a b : ℕ) (ea : a ≡ get_or classes i 0) (eb : b ≡ get_or classes j 0) where
  pub row_kept : a ≡ b → MergedRowIs row n i j row
  unfolding MergedRowIs UnrankIs Begins
  row_kept e v P f = sym f ∙ ap rank (sym (merged-same n v i j (sym (U v P f i li) ∙ sym ea ∙ e ∙ eb ∙ U v P f j lj)))

  pub row-merged : (merged : List ℕ) → MergeIs classes n a b merged → (r : ℕ) → RankIs merged n r → MergedRowIs row n i j r
  unfolding MergedRowIs UnrankIs MergeIs RankIs Begins merged_at
  row-merged merged M r R v P f = R (merged_at v i j) (merged_partition n v i j P) (λ k h.
      let x : a ≡ get_or v i 0 = ea ∙ U v P f i li in
      let y : b ≡ get_or v j 0 = eb ∙ U v P f j lj in
      M k h ∙ ap (merged_class a b) (U v P f k h) ∙ ap (λ t. merged_class t b (get_or v k 0)) x ∙ ap (λ t. merged_class (get_or v i 0) t (get_or v k 0)) y
      ∙ sym (get_d_map (merged_class (get_or v i 0) (get_or v j 0)) v k (omega (arith, P.size))))
