-- Partitions of a call's names and conditions: merging the classes of two names is gathering their match. Assumes nothing.
use mathlib.Core.List.{List, [], ◌∷◌, ◌++◌, append_assoc, append-nil}
use mathlib.Core.Logic.{inl, inr}
use mathlib.Core.Path.{◌≡◌, refl, sym, ap, subst, ◌∙◌}
use native.Mathlib.Decide.{ℕ_discrete}
use native.Mathlib.Nat.{not-suc-le-zero}
use native.Mathlib.Omega.{arith}
use Prim.Native.Nat.{ℕ, suc, ◌<◌, ◌≤◌}
use lib.ListN.{length, get_or}
use borrow.Author.Tests.{eq-eqb, ne_eqb}
use Rattle.calculus.specs.Cond.{Cond, Name, cls, ◌▷◌}
use Rattle.calculus.specs.Free.{In}
use Rattle.calculus.proofs.Conditions.{E2, Unif-++, Unif-left, Unif_right}
use Rattle.terms_bytes.proofs.Stores.{get_d_map}
use Rattle.steps_partitions.specs.Partition.{rank, Partition, merged_class, merged_at, apart_from}
use Rattle.steps_partitions.proofs.PartitionLaws.{apart_at, merged-both, merged_one, OneOf, merged_partition, merged-rank}
use Rattle.steps_places.specs.PlaceTable.{slot_of, along, Agrees, Means}

slot_hit : (x y : ℕ) (ys : List ℕ) → x ≡ y → slot_of (y ∷ ys) x ≡ 0
unfolding slot_of
slot_hit x y ys e = rw (eq-eqb x y e) refl

slot_miss : (x y : ℕ) (ys : List ℕ) → (x ≡ y → ⊥) → slot_of (y ∷ ys) x ≡ suc (slot_of ys x)
unfolding slot_of
slot_miss x y ys n = rw (ne_eqb x y n) refl

-- The place of a name has it,
pub slot-name : (xs : List ℕ) (x : ℕ) → slot_of xs x < length xs → get_or xs (slot_of xs x) 0 ≡ x
slot-name [] x l = absurd (not-suc-le-zero l)
slot-name (y ∷ ys) x l = go (λ h. slot-name ys x h) (ℕ_discrete x y)
  where
    go : (slot_of ys x < length ys → get_or ys (slot_of ys x) 0 ≡ x) → Dec (x ≡ y) → get_or (y ∷ ys) (slot_of (y ∷ ys) x) 0 ≡ x
    go ih (yes e) = ap (λ i. get_or (y ∷ ys) i 0) (slot_hit x y ys e) ∙ sym e
    go ih (no n) = ap (λ i. get_or (y ∷ ys) i 0) (slot_miss x y ys n) ∙ ih (omega (arith, l, slot_miss x y ys n))

-- and each name of the list has one.
pub slot_within : (xs : List ℕ) (x : ℕ) → In x xs → slot_of xs x < length xs
slot_within [] x m = elim m [ ]
slot_within (y ∷ ys) x m = go (λ h. slot_within ys x h) m (ℕ_discrete x y)
  where
    go : (In x ys → slot_of ys x < length ys) → In x (y ∷ ys) → Dec (x ≡ y) → slot_of (y ∷ ys) x < length (y ∷ ys)
    go ih m (yes e) = omega (arith, slot_hit x y ys e)
    go ih (inl e) (no n) = absurd (n e)
    go ih (inr h) (no n) = omega (arith, slot_miss x y ys n, ih h)

-- Every name for itself is no condition.
pub means_none : (xs : List ℕ) → Means xs (apart_from 0 (length xs)) []
means_none xs = record {
  agrees = λ f u i j l k e.
      let z : i ≡ j = omega (arith, e, apart_at (length xs) 0 i l, apart_at (length xs) 0 j k) in
      ap (λ x. f (get_or xs x 0)) z;
  unifies = λ f a. tt;
}

-- A match more.
module _ (xs v : List ℕ) (n : ℕ) (same : length xs ≡ n) (p : Partition n v) (a b : ℕ) (la : slot_of xs a < n) (lb : slot_of xs b < n) where
  abbrev after : List ℕ
  after = merged_at v (slot_of xs a) (slot_of xs b)

  class_at : (i : ℕ) → i < length xs → get_or after i 0 ≡ merged_class (get_or v (slot_of xs a) 0) (get_or v (slot_of xs b) 0) (get_or v i 0)
  unfolding merged_at
  class_at i l = get_d_map (merged_class (get_or v (slot_of xs a) 0) (get_or v (slot_of xs b) 0)) v i (omega (arith, p.size, same))

  agrees-before : (f : ℕ → ℕ) → Agrees xs after f → Agrees xs v f
  agrees-before f A i j l k e =
      A i j l k (class_at i l ∙ ap (merged_class (get_or v (slot_of xs a) 0) (get_or v (slot_of xs b) 0)) e ∙ sym (class_at j k))

  agrees-match : (f : ℕ → ℕ) → Agrees xs after f → f a ≡ f b
  agrees-match f A =
      let l : slot_of xs a < length xs = omega (arith, la, same) in
      let k : slot_of xs b < length xs = omega (arith, lb, same) in
      let e = A (slot_of xs a) (slot_of xs b) l k (class_at (slot_of xs a) l ∙ merged-both (get_or v (slot_of xs a) 0) (get_or v (slot_of xs b) 0) ∙ sym (class_at (slot_of xs b) k)) in
      ap f (sym (slot-name xs a l)) ∙ e ∙ ap f (slot-name xs b k)

  agrees_after : (f : ℕ → ℕ) → Agrees xs v f → f a ≡ f b → Agrees xs after f
  agrees_after f A m i j l k e = go (merged_one (get_or v (slot_of xs a) 0) (get_or v (slot_of xs b) 0) (get_or v i 0) (get_or v j 0) (sym (class_at i l) ∙ e ∙ class_at j k))
    where
      here : f (get_or xs (slot_of xs a) 0) ≡ f (get_or xs (slot_of xs b) 0)
      here = ap f (slot-name xs a (omega (arith, la, same))) ∙ m ∙ ap f (sym (slot-name xs b (omega (arith, lb, same))))

      go : OneOf (get_or v (slot_of xs a) 0) (get_or v (slot_of xs b) 0) (get_or v i 0) (get_or v j 0) → f (get_or xs i 0) ≡ f (get_or xs j 0)
      go (inl x) = A i j l k x
      go (inr (inl (x, y))) = A i (slot_of xs a) l (omega (arith, la, same)) x ∙ here ∙ A (slot_of xs b) j (omega (arith, lb, same)) k (sym y)
      go (inr (inr (x, y))) = A i (slot_of xs b) l (omega (arith, lb, same)) x ∙ sym here ∙ A (slot_of xs a) j (omega (arith, la, same)) k (sym y)

  means_match : (C : Cond) → Means xs v C → Means xs after (C ++ ((a, b) ∷ []))
  means_match C M = record {
    agrees = λ f u. agrees_after f (M.agrees f (Unif-left f C ((a, b) ∷ []) u)) (Unif_right f C ((a, b) ∷ []) u).0;
    unifies = λ f A. Unif-++ f C ((a, b) ∷ []) (M.unifies f (agrees-before f A)) (agrees-match f A, tt);
  }

-- The matches of a way.
module _ (xs : List ℕ) (n : ℕ) (same : length xs ≡ n) where
  pub means_along : (D : Cond) (v : List ℕ) (C : Cond) → Partition n v → ((x : ℕ) → Name x D → slot_of xs x < n) → Means xs v C → Means xs (along xs v D) (C ++ D)
  unfolding along
  means_along [] v C p h M = subst (Means xs v) (sym (append-nil C)) M
  means_along (m ∷ D) v C p h M = subst (Means xs (along xs (merged_at v (slot_of xs m.0) (slot_of xs m.1)) D)) (append_assoc C (m ∷ []) D)
      (means_along D (merged_at v (slot_of xs m.0) (slot_of xs m.1)) (C ++ (m ∷ [])) (merged_partition n v (slot_of xs m.0) (slot_of xs m.1) p)
      (λ x q. h x (inr (inr q)))
      (means_match xs v n same p m.0 m.1 (h m.0 (inl refl)) (h m.1 (inr (inl refl))) C M))

  pub along_partition : (D : Cond) (v : List ℕ) → Partition n v → Partition n (along xs v D)
  unfolding along
  along_partition [] v p = p
  along_partition (m ∷ D) v p = along_partition D (merged_at v (slot_of xs m.0) (slot_of xs m.1)) (merged_partition n v (slot_of xs m.0) (slot_of xs m.1) p)

  pub along-rank : (D : Cond) (v : List ℕ) → Partition n v → rank (along xs v D) ≤ rank v
  unfolding along
  along-rank [] v p = omega arith
  along-rank (m ∷ D) v p = omega (
    arith,
    along-rank D (merged_at v (slot_of xs m.0) (slot_of xs m.1)) (merged_partition n v (slot_of xs m.0) (slot_of xs m.1) p),
    merged-rank n v (slot_of xs m.0) (slot_of xs m.1) p,
  )

-- Conditions that mean one partition imply each other.
pub means_same : (xs v : List ℕ) (C D : Cond) → Means xs v C → Means xs v D → (C ▷ D) × (D ▷ C)
means_same xs v C D M N = (N.unifies (cls C) (M.agrees (cls C) (E2 C)), M.unifies (cls D) (N.agrees (cls D) (E2 D)))
