-- The names that a step receives where all names differ: the test of one name, and all of them in order. Assumes nothing.
use mathlib.Core.Bool.{Bool, true, false, cond, ◌||◌, not}
use mathlib.Core.List.{List, [], ◌∷◌}
use mathlib.Core.Logic.{inl, inr}
use mathlib.Core.Path.{◌≡◌, refl, sym, ap, ◌∙◌, subst}
use native.Mathlib.Decide.{ℕ_discrete}
use native.Mathlib.Omega.{arith}
use Prim.Native.Nat.{ℕ, zero, suc, ◌+◌, ◌<◌, ◌≤◌}
use lib.Dec.{eqb}
use lib.ListN.{get_or}
use borrow.Author.Tests.{eq-eqb, ne_eqb}
use Rattle.calculus.specs.Distinction.{among}
use Rattle.calculus.proofs.Selection.{in_among, among_in}
use Rattle.terms.specs.Limits.{name_count}
use Rattle.calculus.specs.Lists.{◌∈◌}
use Rattle.steps.specs.Listed.{ListedStep, names_from}
use Rattle.field.specs.Situation.{free_from}
use Rattle.field.specs.Successors.{select, received}
use Rattle.field.proofs.Proper.{free_from_lem, from_free}
use Rattle.field.proofs.Selections.{select-∈, select-same}
use Rattle.field_pairs.specs.Entry.{EntryAt, kind_byte, object_byte}
use Rattle.field_pairs.specs.NameFlags.{HasNames, ReceivedIs}
use Rattle.field_pairs.specs.Slot.{flag}
use Rattle.field_pairs.proofs.EntryLaws.{entry_kind, entry_object}

both_or_neither : (s t : Bool) → (s ≡ true → t ≡ true) → (t ≡ true → s ≡ true) → s ≡ t
both_or_neither true t h k = sym (h refl)
both_or_neither false true h k = k refl
both_or_neither false false h k = refl

or_false : (s : Bool) → (s || false) ≡ s
or_false true = refl
or_false false = refl

-- Of the names below the number of names, those of F are those found in order.
among_free : (F : List ℕ) (names n : ℕ) → n < names → among (free_from F 0 names) n ≡ among F n
among_free F names n l =
    both_or_neither (among (free_from F 0 names) n) (among F n)
    (λ e. in_among F n (free_from_lem F 0 names n (among_in (free_from F 0 names) n e)))
    (λ e. in_among (free_from F 0 names) n (from_free F 0 names n (among_in F n e) (omega arith) (omega arith)))

among-received : (G : List ℕ) (s : ListedStep) (n : ℕ) → n < name_count
    → among (received true name_count (free_from G 0 name_count) s) n ≡ cond (eqb s.kind 1) (eqb n s.object || among G n) (eqb n s.object)
unfolding received among
among-received G s n l = go (eqb s.kind 1)
  where
    go : (b : Bool) → among (cond b (free_from (s.object ∷ free_from G 0 name_count) 0 name_count) (s.object ∷ [])) n
        ≡ cond b (eqb n s.object || among G n) (eqb n s.object)
    go true = among_free (s.object ∷ free_from G 0 name_count) name_count n l ∙ ap (λ b. eqb n s.object || b) (among_free G name_count n l)
    go false = or_false (eqb n s.object)

module _ (free area : List ℕ) (at name : ℕ) (l : name < name_count) where
  pub received_object : get_or area (at + object_byte) 0 ≡ name → ReceivedIs free area at name true
  unfolding ReceivedIs
  received_object q G s h e = sym (among-received G s name l ∙ rw (eq-eqb name s.object (sym q ∙ entry_object area at s e)) (go (eqb s.kind 1)))
    where
      go : (b : Bool) → cond b (true || among G name) true ≡ true
      go true = refl
      go false = refl

  module _ (other : get_or area (at + object_byte) 0 ≡ name → ⊥) where
    not_object : (s : ListedStep) → EntryAt area at s → eqb name s.object ≡ false
    not_object s e = ne_eqb name s.object (λ q. other (entry_object area at s e ∙ sym q))

    pub received_none : (get_or area (at + kind_byte) 0 ≡ 1 → ⊥) → ReceivedIs free area at name false
    unfolding ReceivedIs
    received_none k G s h e =
        sym (among-received G s name l ∙ rw (not_object s e, ne_eqb s.kind 1 (λ q. k (entry_kind area at s e ∙ q))))

    pub received_free : get_or area (at + kind_byte) 0 ≡ 1 → ReceivedIs free area at name (not (eqb (get_or free name 0) 0))
    unfolding ReceivedIs HasNames flag
    received_free k G s h e =
        sym (among-received G s name l ∙ rw (not_object s e, eq-eqb s.kind 1 (sym (entry_kind area at s e) ∙ k), h name l) (go (among G name)))
      where
        go : (b : Bool) → b ≡ not (eqb (flag b) 0)
        go true = refl
        go false = refl

-- Names in order, as a selection.
selected : (F : List ℕ) (n k : ℕ) → free_from F n k ≡ select (among F) (names_from n k)
unfolding free_from select names_from
selected F n zero = refl
selected F n (suc k) = ap (λ l. cond (among F n) (n ∷ l) l) (selected F (suc n) k)

names-below : (n k m : ℕ) → m ∈ names_from n k → m < n + k
unfolding names_from
names-below n zero m x' = elim x' [ ]
names-below n (suc k) m (inl e) = omega arith
names-below n (suc k) m (inr i) = let h = names-below (suc n) k m i in omega arith

-- one name of a run
not_there : (x n k : ℕ) → x < n → select (among (x ∷ [])) (names_from n k) ≡ []
unfolding select among names_from
not_there x n zero h = refl
not_there x n (suc k) h = rw (ne_eqb n x (λ e. omega arith)) (not_there x (suc n) k (omega arith))

alone : (x n k : ℕ) → n ≤ x → x < n + k → select (among (x ∷ [])) (names_from n k) ≡ x ∷ []
unfolding select among names_from
alone x n zero h l = absurd (omega arith)
alone x n (suc k) h l = go (ℕ_discrete n x) (λ h'. alone x (suc n) k h' (omega arith))
  where
    go : Dec (n ≡ x) → (suc n ≤ x → select (among (x ∷ [])) (names_from (suc n) k) ≡ x ∷ [])
        → cond (eqb n x || false) (n ∷ select (among (x ∷ [])) (names_from (suc n) k)) (select (among (x ∷ [])) (names_from (suc n) k)) ≡ x ∷ []
    go (yes e) r = rw (eq-eqb n x e, not_there x (suc n) k (omega arith)) (ap (λ m. m ∷ []) e)
    go (no d) r = rw (ne_eqb n x d) (r (omega arith))

module _ (G : List ℕ) (s : ListedStep) (l : s.object < name_count) where
  abbrev offered : List ℕ
  offered = received true name_count (free_from G 0 name_count) s

  -- All that it receives, ascending: the names that pass the test.
  pub received_ascending : offered ≡ select (among offered) (names_from 0 name_count)
  unfolding received
  received_ascending = go (eqb s.kind 1)
    where
      L : List ℕ
      L = s.object ∷ free_from G 0 name_count

      go : (b : Bool) → cond b (free_from L 0 name_count) (s.object ∷ []) ≡ select (among (cond b (free_from L 0 name_count) (s.object ∷ []))) (names_from 0 name_count)
      go true =
          selected L 0 name_count
          ∙ select-same (among L) (among (free_from L 0 name_count)) (names_from 0 name_count)
          (λ m i. let h = names-below 0 name_count m i in sym (among_free L name_count m (omega arith)))
      go false = sym (alone s.object 0 name_count (omega arith) (omega arith))

  pub received-below : (n : ℕ) → n ∈ offered → n < name_count
  received-below n i =
      let (j, e) = select-∈ (among offered) n (names_from 0 name_count) (subst (λ ns. n ∈ ns) received_ascending i) in
      let h = names-below 0 name_count n j in omega arith
