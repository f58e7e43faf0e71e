-- Byte order as the test that the code makes, and the search for an entry's place by halving. Assumes nothing.
use borrow.Author.Tests.{eq-eqb, eqb-true, leb-true, leb-false}
use mathlib.Core.Bool.{Bool, true, false, ◌&&◌}
use mathlib.Core.List.{List, ◌∷◌}
use mathlib.Core.Logic.{◌⊎◌, inl, inr}
use mathlib.Core.Path.{◌≡◌, refl, sym, ◌∙◌, subst}
use native.Mathlib.Nat.{eq-or-lt_of_le}
use native.Mathlib.Numerals.{add-one}
use native.Mathlib.Omega.{arith}
use Prim.Native.Nat.{ℕ, zero, suc, ◌+◌, ◌-◌, ◌<◌, ◌≤◌, compare, Ordering}
use lib.Dec.{compare_is_eq, eqb, leb}
use lib.ListN.{length, get_or, drop, drop_of_length-le}
use lib.Seq.{drop-cons}
use Rattle.terms_bytes.proofs.Stores.{length-span, get_d_span}
use Rattle.steps.specs.Limits.{step_bytes}
use Rattle.steps.specs.Listing.{order}
use Rattle.steps_entries.specs.Entries.{entry_from, entry_at, is_before, comes_before, Alike, AlikeIs, EntriesAscend}
use Rattle.steps.proofs.ByteOrder.{Before, Says, ordered, before_irreflexive, before_trans, before-order}

pub comes_before_lem : (xs ys : List ℕ) → comes_before xs ys ≡ true → Before xs ys
unfolding comes_before is_before
comes_before_lem xs ys e = go (order xs ys) e (ordered xs ys)
  where
    go : (o : Ordering) → is_before o ≡ true → Says Before xs ys o → Before xs ys
    go Ordering.lt e s = s
    go Ordering.eq e s = let z : ◌≡◌ {A = ℕ} 0 1 = cc in absurd (omega arith)
    go Ordering.gt e s = let z : ◌≡◌ {A = ℕ} 0 1 = cc in absurd (omega arith)

pub before_comes : (xs ys : List ℕ) → Before xs ys → comes_before xs ys ≡ true
unfolding comes_before is_before
before_comes xs ys b = rw (before-order xs ys b) refl

pub order-same-bytes : (xs : List ℕ) → order xs xs ≡ Ordering.eq
order-same-bytes xs = go (order xs xs) (ordered xs xs)
  where
    go : (o : Ordering) → Says Before xs xs o → o ≡ Ordering.eq
    go Ordering.lt s = absurd (before_irreflexive xs s)
    go Ordering.eq s = refl
    go Ordering.gt s = absurd (before_irreflexive xs s)

pub order-behind : (xs ys : List ℕ) → comes_before ys xs ≡ true → order xs ys ≡ Ordering.gt
order-behind xs ys e = go (comes_before_lem ys xs e) (order xs ys) (ordered xs ys)
  where
    go : Before ys xs → (o : Ordering) → Says Before xs ys o → o ≡ Ordering.gt
    go b Ordering.lt s = absurd (before_irreflexive xs (before_trans xs ys xs s b))
    go b Ordering.eq s = absurd (before_irreflexive xs (subst (λ z. Before z xs) (sym s) b))
    go b Ordering.gt s = refl

-- of two entries, one comes before the other or they are the same
pub not_before : (xs ys : List ℕ) → comes_before xs ys ≡ false → comes_before ys xs ≡ false → xs ≡ ys
unfolding comes_before is_before
not_before xs ys d e = go (order xs ys) (ordered xs ys) d
  where
    go : (o : Ordering) → Says Before xs ys o → is_before o ≡ false → xs ≡ ys
    go Ordering.lt s f = let z : ◌≡◌ {A = ℕ} 0 1 = cc in absurd (omega arith)
    go Ordering.eq s f = s
    go Ordering.gt s f = let t = before_comes ys xs s in let z : ◌≡◌ {A = ℕ} 0 1 = cc in absurd (omega arith)

-- equal first bytes leave the rest to decide
order_same : (x : ℕ) (xs ys : List ℕ) → order (x ∷ xs) (x ∷ ys) ≡ order xs ys
unfolding order
order_same x xs ys = go (compare x x) (eq-eqb x x refl)
  where
    go : (o : Ordering) → compare_is_eq o ≡ true
        → elim o [ Ordering.lt ↦ Ordering.lt | Ordering.eq ↦ order xs ys | Ordering.gt ↦ Ordering.gt ] ≡ order xs ys
    go Ordering.lt e = let z : ◌≡◌ {A = ℕ} 0 1 = cc in absurd (omega arith)
    go Ordering.eq e = refl
    go Ordering.gt e = let z : ◌≡◌ {A = ℕ} 0 1 = cc in absurd (omega arith)

-- The comparison has passed k equal bytes.
module _ (xs ys : List ℕ) (k : ℕ) where
  abbrev pub Passed : Type 0
  Passed = order xs ys ≡ order (drop k xs) (drop k ys)

  module _ (passed : order xs ys ≡ order (drop k xs) (drop k ys)) where
    pub passed-all : length xs ≤ k → length ys ≤ k → false ≡ comes_before xs ys
    unfolding comes_before is_before order
    passed-all h l =
        let e : order xs ys ≡ Ordering.eq = rw (passed, drop_of_length-le xs h, drop_of_length-le ys l) refl in
        rw e refl

    module _ (h : k < length xs) (l : k < length ys) where
      next : order (drop k xs) (drop k ys) ≡ order (get_or xs k 0 ∷ drop (suc k) xs) (get_or ys k 0 ∷ drop (suc k) ys)
      next = rw (drop-cons xs k 0 h, drop-cons ys k 0 l) refl

      pub passed_less : get_or xs k 0 < get_or ys k 0 → true ≡ comes_before xs ys
      unfolding comes_before is_before
      passed_less m = rw (passed, next, before-order (get_or xs k 0 ∷ drop (suc k) xs) (get_or ys k 0 ∷ drop (suc k) ys) (inl m)) refl

      pub passed-more : get_or ys k 0 < get_or xs k 0 → false ≡ comes_before xs ys
      unfolding comes_before is_before
      passed-more m =
          rw (passed, next)
          (go (order (get_or xs k 0 ∷ drop (suc k) xs) (get_or ys k 0 ∷ drop (suc k) ys))
          (ordered (get_or xs k 0 ∷ drop (suc k) xs) (get_or ys k 0 ∷ drop (suc k) ys)))
        where
          go : (o : Ordering) → Says Before (get_or xs k 0 ∷ drop (suc k) xs) (get_or ys k 0 ∷ drop (suc k) ys) o → false ≡ is_before o
          go Ordering.lt (inl s) = absurd (omega arith)
          go Ordering.lt (inr s) = let z = s.0 in absurd (omega arith)
          go Ordering.eq s = refl
          go Ordering.gt s = refl

      pub passed-same : get_or xs k 0 ≡ get_or ys k 0 → order xs ys ≡ order (drop (k + 1) xs) (drop (k + 1) ys)
      passed-same m = rw (add-one k, passed, next, m) (order_same (get_or ys k 0) (drop (suc k) xs) (drop (suc k) ys))

-- The same of the entries that begin at two places.
pub length-entry : (a : List ℕ) (i : ℕ) → i + step_bytes ≤ length a → length (entry_from a i) ≡ step_bytes
unfolding entry_from
length-entry a i m = length-span a i step_bytes m

module _ (a : List ℕ) (i : ℕ) (b : List ℕ) (j : ℕ) (m : i + step_bytes ≤ length a) (n : j + step_bytes ≤ length b) (k : ℕ)
    (passed : Passed (entry_from a i) (entry_from b j) k) where
  pub entries-same : step_bytes ≤ k → false ≡ comes_before (entry_from a i) (entry_from b j)
  entries-same h = passed-all (entry_from a i) (entry_from b j) k passed (omega (arith, length-entry a i m)) (omega (arith, length-entry b j n))

  module _ (h : k < step_bytes) where
    inside : (s : List ℕ) (at : ℕ) → at + step_bytes ≤ length s → k < length (entry_from s at)
    inside s at l = omega (arith, length-entry s at l)

    byte : (s : List ℕ) (at : ℕ) → get_or (entry_from s at) k 0 ≡ get_or s (at + k) 0
    unfolding entry_from
    byte s at = get_d_span s at step_bytes k h

    pub entry_less : get_or a (i + k) 0 < get_or b (j + k) 0 → true ≡ comes_before (entry_from a i) (entry_from b j)
    entry_less l =
        passed_less (entry_from a i) (entry_from b j) k passed (inside a i m) (inside b j n) (omega (arith, byte a i, byte b j))

    pub entry_more : get_or b (j + k) 0 < get_or a (i + k) 0 → false ≡ comes_before (entry_from a i) (entry_from b j)
    entry_more l =
        passed-more (entry_from a i) (entry_from b j) k passed (inside a i m) (inside b j n) (omega (arith, byte a i, byte b j))

    pub entry_next : get_or b (j + k) 0 ≤ get_or a (i + k) 0 → get_or a (i + k) 0 ≤ get_or b (j + k) 0 → Passed (entry_from a i) (entry_from b j) (k + 1)
    entry_next l g =
        passed-same (entry_from a i) (entry_from b j) k passed (inside a i m) (inside b j n) (omega (arith, byte a i, byte b j))

-- Bytes that are alike are passed.
pub alike-passed : (a : List ℕ) (i : ℕ) (b : List ℕ) (j : ℕ) → i + step_bytes ≤ length a → j + step_bytes ≤ length b → (k : ℕ) → k ≤ step_bytes
    → Alike a i b j k → Passed (entry_from a i) (entry_from b j) k
alike-passed a i b j m n zero h s = refl
alike-passed a i b j m n (suc k) h s =
    let e = s k (omega arith) in
    let p = alike-passed a i b j m n k (omega arith) (λ l g. s l (omega arith)) in
    rw (← add-one k) (entry_next a i b j m n k p (omega arith) (omega arith) (omega arith))

-- One more byte, and one more piece.
module _ (a : List ℕ) (i : ℕ) (b : List ℕ) (j k : ℕ) where
  alike-more : Alike a i b j k → get_or a (i + k) 0 ≡ get_or b (j + k) 0 → Alike a i b j (k + 1)
  alike-more s e l h = go (eq-or-lt_of_le {n = l} {m = k} (omega arith))
    where
      go : (l ≡ k) ⊎ (l < k) → get_or a (i + l) 0 ≡ get_or b (j + l) 0
      go (inl q) = rw q e
      go (inr q) = s l q

  pub alike_next : (same : Bool) → AlikeIs a i b j k same → AlikeIs a i b j (k + 1) (same && eqb (get_or a (i + k) 0) (get_or b (j + k) 0))
  alike_next true s = (
    λ e. alike-more (s.0 refl) (eqb-true (get_or a (i + k) 0) (get_or b (j + k) 0) e),
    λ t. eq-eqb (get_or a (i + k) 0) (get_or b (j + k) 0) (t k (omega arith)),
  )
  alike_next false s = (λ e. let z : ◌≡◌ {A = ℕ} 0 1 = cc in absurd (omega arith), λ t. s.1 (λ l h. t l (omega arith)))

  pub alike-join : (n : ℕ) → Alike a i b j k → Alike a (i + k) b (j + k) n → Alike a i b j (k + n)
  alike-join n s t l h = go (leb k l) refl
    where
      go : (o : Bool) → leb k l ≡ o → get_or a (i + l) 0 ≡ get_or b (j + l) 0
      go false q = s l (leb-false k l q)
      go true q =
          let m : k ≤ l = leb-true k l q in
          let e : i + k + (l - k) ≡ i + l = omega arith in
          let f : j + k + (l - k) ≡ j + l = omega arith in
          rw (← e, ← f) (t (l - k) (omega arith))

-- What is known of the place of an entry when `low` entries are known to come before it, and those from `high` on not to.
module _ (area : List ℕ) (count : ℕ) (e : List ℕ) where
  abbrev pub Behind : ℕ → Type 0
  Behind low = EntriesAscend area count → (i : ℕ) → i < low → comes_before (entry_at area i) e ≡ true

  abbrev pub Ahead : ℕ → Type 0
  Ahead high = EntriesAscend area count → (i : ℕ) → high ≤ i → i < count → comes_before (entry_at area i) e ≡ false

  pub behind_middle : (m : ℕ) → m < count → true ≡ comes_before (entry_at area m) e → Behind (m + 1)
  unfolding EntriesAscend
  behind_middle m h b up i l = go (eq-or-lt_of_le {n = i} {m = m} (omega arith))
    where
      go : (i ≡ m) ⊎ (i < m) → comes_before (entry_at area i) e ≡ true
      go (inl q) = rw q (sym b)
      go (inr q) =
          before_comes (entry_at area i) e
          (before_trans (entry_at area i) (entry_at area m) e (comes_before_lem (entry_at area i) (entry_at area m) (up i m q h))
          (comes_before_lem (entry_at area m) e (sym b)))

  pub ahead_middle : (m : ℕ) → m < count → false ≡ comes_before (entry_at area m) e → Ahead m
  unfolding EntriesAscend
  ahead_middle m h b up i l k = go (comes_before (entry_at area i) e) refl (eq-or-lt_of_le {n = m} {m = i} l)
    where
      go : (t : Bool) → comes_before (entry_at area i) e ≡ t → (m ≡ i) ⊎ (m < i) → t ≡ false
      go t d (inl q) = sym d ∙ (rw q at (sym b))
      go false d (inr q) = refl
      go true d (inr q) =
          let f = before_comes (entry_at area m) e
          (before_trans (entry_at area m) (entry_at area i) e (comes_before_lem (entry_at area m) (entry_at area i) (up m i q k))
          (comes_before_lem (entry_at area i) e d)) in
          let z : ◌≡◌ {A = ℕ} 0 1 = cc in absurd (omega arith)
