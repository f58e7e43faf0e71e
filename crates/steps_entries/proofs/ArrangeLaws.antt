-- The entries of the list brought into the order of the index, one after the other. Assumes nothing.
use borrow.Author.Tests.{eq-eqb, ne_eqb, lt-ltb, le-ltb}
use mathlib.Core.Bool.{cond}
use mathlib.Core.List.{List, [], ◌∷◌, ◌++◌}
use mathlib.Core.Logic.{◌⊎◌, inl, inr, ⊎_elim}
use mathlib.Core.Path.{◌≡◌, refl, sym, ◌∙◌, ap, ap₂}
use native.Mathlib.Decide.{ℕ_discrete, dec_le}
use native.Mathlib.Nat.{eq-or-lt_of_le, suc-mul, zero-add}
use native.Mathlib.Omega.{arith}
use Prim.Native.Nat.{ℕ, suc, ◌+◌, ◌*◌, ◌<◌, ◌≤◌}
use lib.Dec.{ltb}
use lib.ListN.{length, get_or, set, take, drop}
use lib.Seq.{sets, length-sets, take-add, drop-drop}
use Rattle.terms.specs.Limits.{longest_term}
use Rattle.terms_renaming.proofs.Filling.{Filling, fill_step}
use Rattle.steps_entries.specs.Arranging.{relabelled, RelabelIs, Settled, SettleIs, ArrangeIs}
use Rattle.steps.specs.Derived.{Ascending}
use Rattle.steps_entries.specs.Entries.{entry_from, place_at, entry_at, step_at, Indexed}
use Rattle.steps.specs.Limits.{most_steps, step_bytes}
use Rattle.steps_entries.specs.Entries.{index_place, list_room}
use Rattle.steps.specs.Listed.{ListedStep}
use Rattle.steps.specs.Listing.{order}
use Rattle.steps.specs.Operations.{list_bytes}
use Rattle.steps_entries.proofs.EntryOrder.{order-same-bytes, length-entry}
use Rattle.steps_entries.proofs.InsertLaws.{same-entry, entry-written, entry-beside, ascends}
use Rattle.steps_entries.proofs.Moves.{get_d_behind}

-- No step of the list stands twice.
later-differs : (ss : List ListedStep) → Ascending longest_term ss → (i k : ℕ) → i < k → k < length ss → step_at ss i ≡ step_at ss k → ⊥
later-differs ss a i k h l e =
    let o = ascends ss a i k h l in
    let q : order (step_at ss i) (step_at ss k) ≡ order (step_at ss k) (step_at ss k) = ap (λ b. order b (step_at ss k)) e in
    let r = order-same-bytes (step_at ss k) in
    let z : ◌≡◌ {A = ℕ} 0 1 = cc in omega arith

-- Entries that stand one after the other as the steps do are the bytes of the list.
entries-listed : (ss : List ListedStep) (area : List ℕ) (at : ℕ) → ((k : ℕ) → k < length ss → entry_from area (at + k * step_bytes) ≡ step_at ss k)
    → take (length ss * step_bytes) (drop at area) ≡ list_bytes ss
unfolding list_bytes entry_from
entries-listed [] area at h = refl
entries-listed (s ∷ ss) area at h =
    let e : suc (length ss) * step_bytes ≡ step_bytes + length ss * step_bytes = omega (arith, suc-mul (length ss) step_bytes) in
    let z : at + 0 * step_bytes ≡ at = omega arith in
    ap (λ n. take n (drop at area)) e
    ∙ take-add step_bytes (length ss * step_bytes) (drop at area)
    ∙ ap₂ ◌++◌ (ap (λ n. take step_bytes (drop n area)) (sym z) ∙ h 0 (omega arith))
    (ap (take (length ss * step_bytes)) (drop-drop step_bytes at area)
    ∙ entries-listed ss area (at + step_bytes)
    (λ k l.
    let w : at + step_bytes + k * step_bytes ≡ at + suc k * step_bytes = omega (arith, suc-mul k step_bytes) in
    ap (λ n. take step_bytes (drop n area)) w ∙ h (suc k) (omega arith)))

-- What is known when the first i entries stand in their places.
module _ (area : List ℕ) (count : ℕ) where
  abbrev pub Arranges : ℕ → List ℕ → Type 0
  Arranges i area₁ = (ss : List ListedStep) → Ascending longest_term ss → length ss ≡ count → Indexed area ss → Settled area₁ i ss

  pub arrange_start : Arranges 0 area
  arrange_start ss a n x = record {
    done = λ k h. absurd (omega arith);
    among = λ k h l. (omega arith, x.among k l);
    entries = λ k h l. x.entries k l;
  }

  pub arrange_step : (i : ℕ) (area₁ area₂ : List ℕ) → Arranges i area₁ → SettleIs area₁ i count area₂ → Arranges (i + 1) area₂
  unfolding SettleIs
  arrange_step i area₁ area₂ f g ss a n x = g ss a n (f ss a n x)

  pub arrange_done : (i : ℕ) (area₁ : List ℕ) → count ≤ i → Arranges i area₁ → ArrangeIs area count area₁
  unfolding ArrangeIs
  arrange_done i area₁ h f ss a n x =
      ap (λ k. take (k * step_bytes) area₁) (sym n)
      ∙ entries-listed ss area₁ 0 (λ k l. ap (entry_from area₁) (zero-add (k * step_bytes)) ∙ (f ss a n x).done k (omega arith))

-- Two entries are exchanged through two others.
pub exchanged : (l : List ℕ) (i j : ℕ) → i + step_bytes ≤ length l → j + step_bytes ≤ length l → (zeros first second l₁ l₂ : List ℕ) → step_bytes ≤ length zeros
    → first ≡ sets zeros 0 (entry_from l i) → second ≡ sets zeros 0 (entry_from l j) → l₁ ≡ sets l i (entry_from second 0) → l₂ ≡ sets l₁ j (entry_from first 0)
    → l₂ ≡ sets (sets l i (entry_from l j)) j (entry_from l i)
exchanged l i j m n zeros first second l₁ l₂ w f s e₁ e₂ =
    let held : (at : ℕ) → at + step_bytes ≤ length l → entry_from (sets zeros 0 (entry_from l at)) 0 ≡ entry_from l at =
    λ at h. entry-written zeros 0 (entry_from l at) (length-entry l at h) (omega arith) in
    e₂
    ∙ ap₂ (λ b xs. sets b j xs) (e₁ ∙ ap (sets l i) (ap (λ b. entry_from b 0) s ∙ held j n)) (ap (λ b. entry_from b 0) f ∙ held i m)

-- Number i is brought to its place.
module _ (area : List ℕ) (i count : ℕ) (inside : i < count) (few : count ≤ most_steps) (room : list_room ≤ length area) where
  module _ (ss : List ListedStep) (a : Ascending longest_term ss) (n : length ss ≡ count) (S : Settled area i ss) where
    -- the entries behind number i are others than it
    apart : (k : ℕ) → i < k → k < length ss → place_at area k ≡ place_at area i → ⊥
    unfolding entry_at
    apart k h l e =
        later-differs ss a i k h l
        (sym (S.entries i (omega arith) (omega arith)) ∙ ap (λ p. entry_from area (p * step_bytes)) (sym e) ∙ S.entries k (omega arith) l)

    is_there : place_at area i ≡ i → Settled area (i + 1) ss
    unfolding entry_at
    is_there e = record {
      done = λ k h. ⊎_elim
          (λ q. ap (λ j. entry_from area (j * step_bytes)) (q ∙ sym e) ∙ S.entries i (omega arith) (omega arith) ∙ ap (step_at ss) (sym q))
          (λ q. S.done k q)
          (eq-or-lt_of_le {n = k} {m = i} (omega arith));
      among = λ k h l.
          let q : place_at area k ≡ i → ⊥ = λ z. apart k (omega arith) l (z ∙ sym e) in
          let m = S.among k (omega arith) l in
          (more (place_at area k) m.0 q, m.1);
      entries = λ k h l. S.entries k (omega arith) l;
    }
      where
        more : (p : ℕ) → i ≤ p → (p ≡ i → ⊥) → i + 1 ≤ p
        more p h q = ⊎_elim (λ z. absurd (q (sym z))) (λ z. omega arith) (eq-or-lt_of_le {n = i} {m = p} h)

  pub settled_there : place_at area i ≡ i → SettleIs area i count area
  unfolding SettleIs
  settled_there e ss a n S = is_there ss a n S e

  -- It stood elsewhere, and is exchanged with the entry in its place, which the index then finds where it stood.
  module _ (p : ℕ) (stood : p ≡ place_at area i) (away : p ≡ i → ⊥) (area₁ area₂ : List ℕ)
      (stored : area₁ ≡ sets (sets area (i * step_bytes) (entry_from area (p * step_bytes))) (p * step_bytes) (entry_from area (i * step_bytes)))
      (again : RelabelIs area₁ (index_place + i + 1) (index_place + count) i p area₂) (kept : length area₂ ≡ length area) where
    module _ (ss : List ListedStep) (a : Ascending longest_term ss) (n : length ss ≡ count) (S : Settled area i ss) where
      place : (i ≤ p) × (p < count)
      place = let m = S.among i (omega arith) (omega arith) in (omega arith, omega arith)

      abbrev halfway : List ℕ
      halfway = sets area (i * step_bytes) (entry_from area (p * step_bytes))

      length-first : length (entry_from area (p * step_bytes)) ≡ step_bytes
      length-first = length-entry area (p * step_bytes) (omega (arith, place))

      length-second : length (entry_from area (i * step_bytes)) ≡ step_bytes
      length-second = length-entry area (i * step_bytes) (omega arith)

      -- entries elsewhere, here and there
      moved : (j : ℕ) → j < count → entry_from area₂ (j * step_bytes) ≡ entry_from (sets halfway (p * step_bytes) (entry_from area (i * step_bytes))) (j * step_bytes)
      moved j h =
          let l : length area₁ ≡ length area = ap length stored ∙ length-sets halfway (p * step_bytes) (entry_from area (i * step_bytes)) ∙ length-sets area (i * step_bytes) (entry_from area (p * step_bytes)) in
          same-entry area₂ area₁ (j * step_bytes) (omega arith) (omega arith) (λ k m. again.before (j * step_bytes + k) (omega arith))
          ∙ ap (λ b. entry_from b (j * step_bytes)) stored

      elsewhere : (j q : ℕ) → (j ≡ q → ⊥) → (l xs : List ℕ) → j * step_bytes + step_bytes ≤ length l → length xs ≡ step_bytes
          → entry_from (sets l (q * step_bytes) xs) (j * step_bytes) ≡ entry_from l (j * step_bytes)
      elsewhere j q d l xs m z = entry-beside l (q * step_bytes) xs (j * step_bytes) m (go (dec_le (suc j) q))
        where
          go : Dec (j < q) → (j * step_bytes + step_bytes ≤ q * step_bytes) ⊎ (q * step_bytes + length xs ≤ j * step_bytes)
          go (yes h) = inl (omega arith)
          go (no h) = inr (let g : q < j = past (λ e. d e) h in omega arith)
            where
              past : (j ≡ q → ⊥) → (j < q → ⊥) → q < j
              past e f = omega arith

      wide : list_room ≤ length halfway
      wide = omega (arith, length-sets area (i * step_bytes) (entry_from area (p * step_bytes)))

      moved_other : (j : ℕ) → j < count → (j ≡ i → ⊥) → (j ≡ p → ⊥) → entry_from area₂ (j * step_bytes) ≡ entry_from area (j * step_bytes)
      moved_other j h d e =
          moved j h
          ∙ elsewhere j p e halfway (entry_from area (i * step_bytes)) (omega (arith, wide)) length-second
          ∙ elsewhere j i d area (entry_from area (p * step_bytes)) (omega arith) length-first

      moved_here : entry_from area₂ (i * step_bytes) ≡ entry_from area (p * step_bytes)
      moved_here =
          moved i inside
          ∙ elsewhere i p (λ e. away (sym e)) halfway (entry_from area (i * step_bytes)) (omega (arith, wide)) length-second
          ∙ entry-written area (i * step_bytes) (entry_from area (p * step_bytes)) length-first (omega arith)

      moved_there : entry_from area₂ (p * step_bytes) ≡ entry_from area (i * step_bytes)
      moved_there =
          moved p place.1
          ∙ entry-written halfway (p * step_bytes) (entry_from area (i * step_bytes)) length-second (omega (arith, wide, place))

      -- the index behind i
      label : (k : ℕ) → i < k → k < count → place_at area₂ k ≡ relabelled i p (place_at area k)
      label k h l =
          again.inside (index_place + k) (omega arith) (omega arith)
          ∙ ap (relabelled i p)
          (ap (λ b. place_at b k) stored
          ∙ get_d_behind halfway (p * step_bytes) (index_place + k) (entry_from area (i * step_bytes)) (omega (arith, place, length-second))
          ∙ get_d_behind area (i * step_bytes) (index_place + k) (entry_from area (p * step_bytes)) (omega (arith, length-first)))

      found : (k : ℕ) → i < k → k < count
          → (i + 1 ≤ place_at area₂ k) × (place_at area₂ k < count) × (entry_from area₂ (place_at area₂ k * step_bytes) ≡ entry_from area (place_at area k * step_bytes))
      unfolding relabelled
      found k h l = go (ℕ_discrete (place_at area k) i)
        where
          go : Dec (place_at area k ≡ i)
              → (i + 1 ≤ place_at area₂ k) × (place_at area₂ k < count) × (entry_from area₂ (place_at area₂ k * step_bytes) ≡ entry_from area (place_at area k * step_bytes))
          go (yes e) =
              let m : place_at area₂ k ≡ p = label k h l ∙ rw (eq-eqb (place_at area k) i e) refl in
              (omega (arith, place, away), omega (arith, place), ap (λ b. entry_from area₂ (b * step_bytes)) m ∙ moved_there ∙ ap (λ b. entry_from area (b * step_bytes)) (sym e))
          go (no e) =
              let m : place_at area₂ k ≡ place_at area k = label k h l ∙ rw (ne_eqb (place_at area k) i e) refl in
              let w = S.among k (omega arith) (omega arith) in (
                omega arith,
                omega arith,
                ap (λ b. entry_from area₂ (b * step_bytes)) m ∙ moved_other (place_at area k) (omega arith) e (λ q. apart ss a n S k h (omega arith) (q ∙ stood)),
              )

      is_away : Settled area₂ (i + 1) ss
      unfolding entry_at
      is_away = record {
        done = λ k h. ⊎_elim
            (λ q. ap (λ j. entry_from area₂ (j * step_bytes)) q ∙ moved_here ∙ ap (λ j. entry_from area (j * step_bytes)) stood ∙ S.entries i (omega arith) (omega arith) ∙ ap (step_at ss) (sym q))
            (λ q. moved_other k (omega arith) (λ e. omega arith) (λ e. omega (arith, place)) ∙ S.done k q)
            (eq-or-lt_of_le {n = k} {m = i} (omega arith));
        among = λ k h l. let f = found k (omega arith) (omega arith) in (f.0, omega (arith, f.1));
        entries = λ k h l. (found k (omega arith) (omega arith)).2 ∙ S.entries k (omega arith) l;
      }

    pub settled_away : SettleIs area i count area₂
    unfolding SettleIs
    settled_away ss a n S = is_away ss a n S

-- The bytes of the index are looked at one after the other.
module _ (area : List ℕ) (from old new : ℕ) where
  abbrev pub relabel_at : ℕ → ℕ
  relabel_at k = cond (ltb k from) (get_or area k 0) (relabelled old new (get_or area k 0))

  pub relabel_start : Filling relabel_at area area from
  relabel_start = record { done = λ k h. rw (lt-ltb k from h) refl; rest = λ k h. refl; len = refl }

  pub relabel_step : (k v : ℕ) (area₁ : List ℕ) → from ≤ k → k < length area → v ≡ relabelled old new (get_or area₁ k 0) → Filling relabel_at area area₁ k
      → Filling relabel_at area (set area₁ k v) (k + 1)
  relabel_step k v area₁ h l e F =
      fill_step relabel_at area area₁ k v l (e ∙ ap (relabelled old new) (F.rest k (omega arith)) ∙ rw (le-ltb k from h) refl) F

  pub relabel_done : (end k : ℕ) (area₁ : List ℕ) → from ≤ k → end ≤ k → Filling relabel_at area area₁ k → RelabelIs area from end old new area₁
  relabel_done end k area₁ g h F = record {
    inside = λ j m l. F.done j (omega arith) ∙ rw (le-ltb j from m) refl;
    before = λ j l. F.done j (omega arith) ∙ rw (lt-ltb j from l) refl;
  }
