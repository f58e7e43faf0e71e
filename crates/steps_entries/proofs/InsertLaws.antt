-- A step's bytes put behind those in the area, and their number into the index, are an entry more, in its place in the order. Assumes nothing.
use mathlib.Core.Bool.{Bool, true, false}
use mathlib.Core.List.{List, [], ◌∷◌, ◌++◌}
use mathlib.Core.Logic.{◌⊎◌, inl, inr}
use mathlib.Core.Path.{◌≡◌, refl, sym, ◌∙◌, ap, ap₂, subst}
use native.Mathlib.Omega.{arith}
use Prim.Native.Nat.{Ordering}
use Prim.Native.Nat.{ℕ, zero, suc, ◌+◌, ◌*◌, ◌-◌, ◌<◌, ◌≤◌}
use lib.ListN.{length, get_or, set, take, drop, length-append, length-drop, length-set}
use lib.Seq.{sets, length-sets, get_or-set_same, get_or-set_other, ext_get_or, take_all, length-take-le}
use Rattle.terms.specs.Limits.{longest_term}
use Rattle.terms_bytes.proofs.Stores.{span, length-span, get_d_span}
use Rattle.calculus.specs.Lists.{All}
use Rattle.steps.specs.Derived.{Ascending}
use Rattle.steps_entries.specs.Entries.{entry_from, place_at, entry_at, is_before, comes_before, Alike, EntriesAscend, PlaceIs, step_at, Indexed, InsertIs}
use Rattle.steps.specs.Limits.{most_steps, step_bytes}
use Rattle.steps_entries.specs.Entries.{index_place, list_room}
use Rattle.steps.specs.Listed.{ListedStep, bytes}
use Rattle.steps.specs.Listing.{order, insert}
use Rattle.steps.proofs.ByteOrder.{before-order}
use Rattle.steps_entries.proofs.EntryOrder.{comes_before_lem, order-same-bytes, order-behind, not_before, length-entry}
use Rattle.steps_entries.proofs.Moves.{get_d_before, get_d_behind, get_d_stored}

-- Entries with the same bytes, an entry that was stored, and one that a run of stores does not touch.
pub same-entry : (a b : List ℕ) (i : ℕ) → i + step_bytes ≤ length a → i + step_bytes ≤ length b → Alike a i b i step_bytes → entry_from a i ≡ entry_from b i
unfolding entry_from
same-entry a b i m n s =
    ext_get_or 0 (entry_from a i) (entry_from b i) (length-entry a i m ∙ sym (length-entry b i n))
    (λ k h. let l : k < step_bytes = omega (arith, length-entry a i m) in get_d_span a i step_bytes k l ∙ s k l ∙ sym (get_d_span b i step_bytes k l))

module _ (l : List ℕ) (p : ℕ) (xs : List ℕ) where
  pub entry-written : length xs ≡ step_bytes → p + step_bytes ≤ length l → entry_from (sets l p xs) p ≡ xs
  unfolding entry_from
  entry-written e h =
      let m : p + step_bytes ≤ length (sets l p xs) = omega (arith, length-sets l p xs) in
      ext_get_or 0 (entry_from (sets l p xs) p) xs (length-entry (sets l p xs) p m ∙ sym e)
      (λ k g.
      let n : k < step_bytes = omega (arith, length-entry (sets l p xs) p m) in
      get_d_span (sets l p xs) p step_bytes k n ∙ get_d_stored l p xs (omega arith) k (omega arith))

  pub entry-beside : (i : ℕ) → i + step_bytes ≤ length l → (i + step_bytes ≤ p) ⊎ (p + length xs ≤ i) → entry_from (sets l p xs) i ≡ entry_from l i
  entry-beside i h o = same-entry (sets l p xs) l i (omega (arith, length-sets l p xs)) h (λ k m. go o k m)
    where
      go : (i + step_bytes ≤ p) ⊎ (p + length xs ≤ i) → (k : ℕ) → k < step_bytes → get_or (sets l p xs) (i + k) 0 ≡ get_or l (i + k) 0
      go (inl q) k m = get_d_before l (i + k) p xs (omega arith)
      go (inr q) k m = get_d_behind l p (i + k) xs (omega arith)

-- what holds of each number before i, of i, and of each behind it
around : (T : ℕ → Type 0) (i : ℕ) → ((k : ℕ) → k < i → T k) → T i → ((k : ℕ) → i ≤ k → T (suc k)) → (k : ℕ) → T k
around T zero b t h zero = t
around T zero b t h (suc k) = h k (omega arith)
around T (suc i) b t h zero = b 0 (omega arith)
around T (suc i) b t h (suc k) = around (λ j. T (suc j)) i (λ j l. b (suc j) (omega arith)) t (λ j l. h (suc j) (omega arith)) k

pub ascends : (ss : List ListedStep) → Ascending longest_term ss → (i j : ℕ) → i < j → j < length ss → order (step_at ss i) (step_at ss j) ≡ Ordering.lt
ascends [] a i j h k = absurd (omega arith)
ascends (s ∷ ss) a i zero h k = absurd (omega arith)
ascends (s ∷ ss) a zero (suc j) h k = go ss a.0 j (omega arith)
  where
    go : (ts : List ListedStep) → All (λ t. order (bytes longest_term s) (bytes longest_term t) ≡ Ordering.lt) ts → (j : ℕ) → j < length ts
        → order (bytes longest_term s) (step_at ts j) ≡ Ordering.lt
    go [] b j h = absurd (omega arith)
    go (t ∷ ts) b zero h = b.0
    go (t ∷ ts) b (suc j) h = go ts b.1 j (omega arith)
ascends (s ∷ ss) a (suc i) (suc j) h k = ascends ss a.1 i j (omega arith) (omega arith)

-- `insert` where the steps before number i come before s: either s is there,
insert_there : (s : ListedStep) (ss : List ListedStep) (i : ℕ) → i < length ss
    → ((k : ℕ) → k < i → comes_before (step_at ss k) (bytes longest_term s) ≡ true) → bytes longest_term s ≡ step_at ss i
    → insert longest_term s ss ≡ ss
unfolding insert
insert_there s [] i h b e = absurd (omega arith)
insert_there s (t ∷ ts) zero h b e =
    let o : order (bytes longest_term s) (bytes longest_term t) ≡ Ordering.eq = rw e (order-same-bytes (bytes longest_term t)) in
    rw (o, insert) refl
insert_there s (t ∷ ts) (suc i) h b e =
    let o : order (bytes longest_term s) (bytes longest_term t) ≡ Ordering.gt = order-behind (bytes longest_term s) (bytes longest_term t) (b 0 (omega arith)) in
    rw (o, insert) (ap (λ r. t ∷ r) (insert_there s ts i (omega arith) (λ k l. b (suc k) (omega arith)) e))

-- or it comes to stand there.
insert-before : (s : ListedStep) (ss : List ListedStep) (i : ℕ) → i ≤ length ss
    → ((k : ℕ) → k < i → comes_before (step_at ss k) (bytes longest_term s) ≡ true)
    → (i < length ss → comes_before (bytes longest_term s) (step_at ss i) ≡ true) → insert longest_term s ss ≡ take i ss ++ (s ∷ drop i ss)
unfolding insert
insert-before s [] zero h b e = refl
insert-before s [] (suc i) h b e = absurd (omega arith)
insert-before s (t ∷ ts) zero h b e =
    let o : order (bytes longest_term s) (bytes longest_term t) ≡ Ordering.lt =
    before-order (bytes longest_term s) (bytes longest_term t) (comes_before_lem (bytes longest_term s) (bytes longest_term t) (e (omega arith))) in
    rw (o, insert) refl
insert-before s (t ∷ ts) (suc i) h b e =
    let o : order (bytes longest_term s) (bytes longest_term t) ≡ Ordering.gt = order-behind (bytes longest_term s) (bytes longest_term t) (b 0 (omega arith)) in
    rw (o, insert) (ap (λ r. t ∷ r) (insert-before s ts i (omega arith) (λ k l. b (suc k) (omega arith)) (λ l. e (omega arith))))

-- The steps of a list into which one was put at the place i.
module _ (s : ListedStep) where
  step-before : (ss : List ListedStep) (i : ℕ) → i ≤ length ss → (k : ℕ) → k < i → step_at (take i ss ++ (s ∷ drop i ss)) k ≡ step_at ss k
  step-before ss zero h k l = absurd (omega arith)
  step-before [] (suc i) h k l = absurd (omega arith)
  step-before (t ∷ ts) (suc i) h zero l = refl
  step-before (t ∷ ts) (suc i) h (suc k) l = step-before ts i (omega arith) k (omega arith)

  step_there : (ss : List ListedStep) (i : ℕ) → i ≤ length ss → step_at (take i ss ++ (s ∷ drop i ss)) i ≡ bytes longest_term s
  step_there ss zero h = refl
  step_there [] (suc i) h = absurd (omega arith)
  step_there (t ∷ ts) (suc i) h = step_there ts i (omega arith)

  step-behind : (ss : List ListedStep) (i : ℕ) → i ≤ length ss → (k : ℕ) → i ≤ k → step_at (take i ss ++ (s ∷ drop i ss)) (suc k) ≡ step_at ss k
  step-behind ss zero h k l = refl
  step-behind [] (suc i) h k l = absurd (omega arith)
  step-behind (t ∷ ts) (suc i) h zero l = absurd (omega arith)
  step-behind (t ∷ ts) (suc i) h (suc k) l = step-behind ts i (omega arith) k (omega arith)

-- An entry e stored behind the first `count`, and its number put into the index at i, those behind it moved up.
module _ (area : List ℕ) (room : list_room ≤ length area) (count i : ℕ) (inside : i ≤ count) (few : count < most_steps) (e : List ℕ)
    (size : length e ≡ step_bytes) where
  abbrev stored : List ℕ
  stored = sets area (count * step_bytes) e

  abbrev shifted : List ℕ
  shifted = span stored (index_place + i) (count - i)

  abbrev moved : List ℕ
  moved = sets stored (index_place + i + 1) shifted

  abbrev pub put : List ℕ
  put = set moved (index_place + i) count

  wide : list_room ≤ length stored
  wide = omega (arith, length-sets area (count * step_bytes) e)

  wide₂ : list_room ≤ length moved
  wide₂ = omega (arith, wide, length-sets stored (index_place + i + 1) shifted)

  length-shifted : length shifted ≡ count - i
  length-shifted = length-span stored (index_place + i) (count - i) (omega (arith, wide))

  place_stored : (k : ℕ) → place_at stored k ≡ place_at area k
  place_stored k = get_d_behind area (count * step_bytes) (index_place + k) e (omega arith)

  place_before : (k : ℕ) → k < i → place_at put k ≡ place_at area k
  place_before k h =
      get_or-set_other moved (index_place + i) (index_place + k) count 0 (λ z. omega arith)
      ∙ get_d_before stored (index_place + k) (index_place + i + 1) shifted (omega arith)
      ∙ place_stored k

  place_there : place_at put i ≡ count
  place_there = get_or-set_same moved (index_place + i) count 0 (omega (arith, wide₂))

  place_behind : (k : ℕ) → i ≤ k → k < count → place_at put (suc k) ≡ place_at area k
  place_behind k h l =
      let p : index_place + suc k ≡ index_place + i + 1 + (k - i) = omega arith in
      let q : index_place + i + (k - i) ≡ index_place + k = omega arith in
      get_or-set_other moved (index_place + i) (index_place + suc k) count 0 (λ z. omega arith)
      ∙ ap (λ j. get_or moved j 0) p
      ∙ get_d_stored stored (index_place + i + 1) shifted (omega (arith, wide, length-shifted)) (k - i) (omega (arith, length-shifted))
      ∙ get_d_span stored (index_place + i) (count - i) (k - i) (omega arith)
      ∙ ap (λ j. get_or stored j 0) q
      ∙ place_stored k

  entry-put : (p : ℕ) → p ≤ count → entry_from put (p * step_bytes) ≡ entry_from stored (p * step_bytes)
  entry-put p h =
      same-entry put stored (p * step_bytes) (omega (arith, wide₂, length-set moved (index_place + i) count)) (omega (arith, wide))
      (λ k l.
      get_or-set_other moved (index_place + i) (p * step_bytes + k) count 0 (λ z. omega arith)
      ∙ get_d_before stored (p * step_bytes + k) (index_place + i + 1) shifted (omega arith))

  entry_old : (p : ℕ) → p < count → entry_from put (p * step_bytes) ≡ entry_from area (p * step_bytes)
  entry_old p h = entry-put p (omega arith) ∙ entry-beside area (count * step_bytes) e (p * step_bytes) (omega arith) (inl (omega arith))

  entry_new : entry_from put (count * step_bytes) ≡ e
  entry_new = entry-put count (omega arith) ∙ entry-written area (count * step_bytes) e size (omega arith)

  module _ (s : ListedStep) (ss : List ListedStep) (given : e ≡ bytes longest_term s) (n : length ss ≡ count) (x : Indexed area ss) where
    abbrev grown : List ListedStep
    grown = take i ss ++ (s ∷ drop i ss)

    number : length grown ≡ count + 1
    number = omega (arith, length-append (take i ss) (s ∷ drop i ss), length-take-le i ss (omega arith), length-drop i ss)

    abbrev Holds : ℕ → Type 0
    Holds k = k < count + 1 → (place_at put k < length grown) × (entry_at put k ≡ step_at grown k)

    old : (j k : ℕ) → k < count → place_at put j ≡ place_at area k → step_at grown j ≡ step_at ss k → Holds j
    unfolding entry_at
    old j k h p q m = (
      omega (arith, number, x.among k (omega arith)),
      ap (λ a. entry_from put (a * step_bytes)) p
          ∙ entry_old (place_at area k) (omega (arith, x.among k (omega arith)))
          ∙ x.entries k (omega arith)
          ∙ sym q,
    )

    new : Holds i
    unfolding entry_at
    new m = (
      omega (arith, number, place_there),
      ap (λ a. entry_from put (a * step_bytes)) place_there ∙ entry_new ∙ given ∙ sym (step_there s ss i (omega arith)),
    )

    each : (k : ℕ) → Holds k
    each =
        around Holds i (λ k h. old k k (omega arith) (place_before k h) (step-before s ss i (omega arith) k h)) new
        (λ k h m. old (suc k) k (omega arith) (place_behind k h (omega arith)) (step-behind s ss i (omega arith) k h) m)

    indexed_put : Indexed put grown
    indexed_put = record {
      among = λ k h. (each k (omega (arith, number))).0;
      entries = λ k h. (each k (omega (arith, number))).1;
    }

-- The test of the entry against the one that the index leads to.
pub tested : (area entry : List ℕ) (i at : ℕ) (r : Bool) → at ≡ place_at area i * step_bytes → r ≡ comes_before (entry_from entry 0) (entry_from area at)
    → comes_before (entry_from entry 0) (entry_at area i) ≡ r
unfolding entry_at
tested area entry i at r e f = ap (λ p. comes_before (entry_from entry 0) (entry_from area p)) (sym e) ∙ sym f

module _ (area : List ℕ) (count : ℕ) (entry : List ℕ) (size : length entry ≡ step_bytes) (i : ℕ) (place : PlaceIs area count (entry_from entry 0) i) where
  abbrev pub TestAt : Type 0
  TestAt = i < count → comes_before (entry_from entry 0) (entry_at area i) ≡ true

  module _ (s : ListedStep) (ss : List ListedStep) (e : entry ≡ bytes longest_term s) (a : Ascending longest_term ss) (n : length ss ≡ count)
      (x : Indexed area ss) where
    given : entry_from entry 0 ≡ bytes longest_term s
    unfolding entry_from
    given = take_all step_bytes entry (omega arith) ∙ e

    entry_is : (k : ℕ) → k < count → entry_at area k ≡ step_at ss k
    entry_is k h = x.entries k (omega arith)

    ascend : EntriesAscend area count
    unfolding EntriesAscend comes_before is_before
    ascend j k h l = rw (entry_is j (omega arith), entry_is k l, ascends ss a j k h (omega arith)) refl

    behind : (k : ℕ) → k < i → comes_before (step_at ss k) (bytes longest_term s) ≡ true
    behind k h =
        let w = place.within in
        ap₂ comes_before (sym (entry_is k (omega arith))) (sym given) ∙ place.behind ascend k h

    is_there : i < count → comes_before (entry_from entry 0) (entry_at area i) ≡ false → insert longest_term s ss ≡ ss
    is_there h f =
        let d : entry_from entry 0 ≡ entry_at area i = not_before (entry_from entry 0) (entry_at area i) f (place.ahead ascend i (omega arith) h) in
        insert_there s ss i (omega arith) behind (sym given ∙ d ∙ entry_is i h)

    is_new_lem : TestAt → insert longest_term s ss ≡ take i ss ++ (s ∷ drop i ss)
    is_new_lem f =
        let w = place.within in
        insert-before s ss i (omega arith) behind
        (λ h. ap₂ comes_before (sym given) (sym (entry_is i (omega arith))) ∙ f (omega arith))

    length-new : TestAt → length (insert longest_term s ss) ≡ count + 1
    length-new f =
        let w = place.within in
        ap length (is_new_lem f)
        ∙ omega (arith, length-append (take i ss) (s ∷ drop i ss), length-take-le i ss (omega arith), length-drop i ss)

  pub inserted_there : i < count → comes_before (entry_from entry 0) (entry_at area i) ≡ false → InsertIs area count entry count area
  unfolding InsertIs
  inserted_there h f s ss e a n x =
      let d : insert longest_term s ss ≡ ss = is_there s ss e a n x h f in
      (sym n ∙ ap length (sym d), λ _. subst (Indexed area) (sym d) x)

  pub inserted_full : count ≡ most_steps → TestAt → InsertIs area count entry (count + 1) area
  unfolding InsertIs
  inserted_full h f s ss e a n x = (sym (length-new s ss e a n x f), λ l. absurd (omega arith))

  pub inserted_new : list_room ≤ length area → count < most_steps → TestAt → (area₁ area₂ : List ℕ) → area₁ ≡ sets area (count * step_bytes) (entry_from entry 0)
      → area₂ ≡ sets area₁ (index_place + i + 1) (take (count - i) (drop (index_place + i) area₁))
      → InsertIs area count entry (count + 1) (set area₂ (index_place + i) count)
  unfolding InsertIs
  inserted_new room few f area₁ area₂ p q s ss e a n x = (
    sym (length-new s ss e a n x f),
    λ _.
        let g : entry_from entry 0 ≡ bytes longest_term s = given s ss e a n x in
        let m : length (entry_from entry 0) ≡ step_bytes = length-entry entry 0 (omega arith) in
        subst (Indexed (set area₂ (index_place + i) count)) (sym (is_new_lem s ss e a n x f))
        (subst (λ l. Indexed (set l (index_place + i) count) (take i ss ++ (s ∷ drop i ss)))
        (sym (q ∙ ap (λ l. sets l (index_place + i + 1) (take (count - i) (drop (index_place + i) l))) p))
        (indexed_put area room count i place.within few (entry_from entry 0) m s ss g n x)),
  )
