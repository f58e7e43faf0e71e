-- Condition arrays: what the stores and the tests of the code make of the conditions that the arrays have. Assumes nothing.
use mathlib.Core.Path.{◌≡◌, refl, sym, ◌∙◌, ap}
use mathlib.Core.Bool.{Bool, true, false}
use mathlib.Core.List.{List, [], ◌∷◌, ◌++◌}
use mathlib.Core.Logic.{◌⊎◌, inl, inr, ◌≢◌, ⊎_elim}
use Prim.Native.Nat.{ℕ, zero, suc, ◌+◌, ◌<◌, ◌≤◌, min, max}
use native.Mathlib.Nat.{eq-or-lt_of_le}
use native.Mathlib.Numerals.{add-one}
use native.Mathlib.Omega.{arith}
use lib.ListN.{get_or}
use lib.Dec.{eqb}
use borrow.Author.Tests.{eq-eqb, eqb-true}
use Rattle.calculus.specs.Cond.{Cond, Unif, join, cls}
use Rattle.calculus.proofs.Conditions.{E2, E3, cls-~, join_cases, Unif-++, Unif-left, Unif_right}
use Rattle.terms.specs.Limits.{name_count}
use Rattle.steps.specs.Raw.{restricted_alone}
use Rattle.steps_conditions.specs.Slots.{slot_count, HasSlotClasses, HasClasses, Below}
use Rattle.steps_conditions.specs.Conditions.{MergedIs, BothIs, AloneIs}
use Rattle.steps_conditions.proofs.SlotLaws.{spared_slot, slot_spared}

-- to merge two classes in every entry is one match more
pub merged_classes : (c : List ℕ) (a b : ℕ) (r : List ℕ) → a < slot_count → b < slot_count
    → ((s : ℕ) → s < slot_count → get_or r s 0 ≡ join (get_or c a 0) (get_or c b 0) (get_or c s 0)) → MergedIs c a b r
unfolding MergedIs HasSlotClasses cls
merged_classes c a b r ha hb h M H s hs = h s hs ∙ rw (H a ha, H b hb, H s hs)

-- a trivial match changes nothing
join_trivial : (x n : ℕ) → join x x n ≡ n
join_trivial x n = go (join_cases x x n)
  where
    go : ((n ≡ max x x) × (join x x n ≡ min x x)) ⊎ ((n ≢ max x x) × (join x x n ≡ n)) → join x x n ≡ n
    go (inl (h, e)) = omega arith
    go (inr (h, e)) = e

pub merged_trivial : (c : List ℕ) (a b : ℕ) → a ≡ b → MergedIs c a b c
unfolding MergedIs HasSlotClasses cls
merged_trivial c a b e M H s hs = H s hs ∙ sym (rw e (join_trivial (cls M b) (cls M s)))

-- the matches of each slot below i with its class
unfoldable pub entries : List ℕ → ℕ → Cond
entries o zero = []
entries o (suc i) = (i, get_or o i 0) ∷ entries o i

entry_at : (g : ℕ → ℕ) (o : List ℕ) (i : ℕ) → Unif g (entries o i) → (n : ℕ) → n < i → g n ≡ g (get_or o n 0)
unfolding entries
entry_at g o zero u n h = absurd (omega arith)
entry_at g o (suc i) u n h = ⊎_elim
    (λ e. rw e u.0)
    (λ l. entry_at g o i u.1 n l)
    (eq-or-lt_of_le {n = n} {m = i} (omega arith))

-- g does not tell a slot from its class, and the classes make the matches true
by_classes : (g f : ℕ → ℕ) (N : Cond) → Below slot_count N → ((n : ℕ) → n < slot_count → g n ≡ g (f n)) → Unif f N → Unif g N
unfolding Below
by_classes g f [] b h u = tt
by_classes g f (p ∷ N) b h u =
    (h p.0 b.0 ∙ ap g u.0 ∙ sym (h p.1 b.1), by_classes g f N b.2 h u.1)

module _ (o : List ℕ) (N : Cond) (H : HasSlotClasses o N) where
  to_entries : (g : ℕ → ℕ) → Unif g N → (i : ℕ) → i ≤ slot_count → Unif g (entries o i)
  unfolding entries HasSlotClasses
  to_entries g u zero h = tt
  to_entries g u (suc i) h = (sym (E3 g N u i) ∙ ap g (sym (H i h)), to_entries g u i (omega arith))

  of_entries : (g : ℕ → ℕ) → Below slot_count N → Unif g (entries o slot_count) → Unif g N
  unfolding HasSlotClasses
  of_entries g b u = by_classes g (cls N) N b (λ n h. entry_at g o slot_count u n h ∙ ap g (H n h)) (E2 N)

  entries-~ : (M : Cond) → Below slot_count N → cls (entries o slot_count ++ M) ≡ cls (M ++ N)
  entries-~ M b =
      let E = entries o slot_count in
      let K : Cond = E ++ M in
      let L : Cond = M ++ N in
      cls-~ K L (
        Unif-++ (cls K) M N (Unif_right (cls K) E M (E2 K)) (of_entries (cls K) b (Unif-left (cls K) E M (E2 K))),
        Unif-++ (cls L) E M (to_entries (cls L) (Unif_right (cls L) M N (E2 L)) slot_count (omega arith)) (Unif-left (cls L) M N (E2 L)),
      )

-- A match for each entry of another array, one by one, composes the two conditions.
unfoldable pub Joined : List ℕ → List ℕ → List ℕ → ℕ → Type 0
Joined c o r i = (M : Cond) → HasSlotClasses c M → HasSlotClasses r (entries o i ++ M)

pub joined-none : (c o : List ℕ) → Joined c o c 0
unfolding Joined entries
joined-none c o M H = H

pub joined-more : (c o r r' : List ℕ) (i : ℕ) → Joined c o r i → MergedIs r i (get_or o i 0) r' → Joined c o r' (i + 1)
unfolding Joined MergedIs entries
joined-more c o r r' i J m M H = rw add-one (m (entries o i ++ M) (J M H))

-- a slot that is its own class matches nothing
pub joined_same : (c o r : List ℕ) (i : ℕ) → get_or o i 0 ≡ i → Joined c o r i → Joined c o r (i + 1)
joined_same c o r i e J = joined-more c o r r i J (merged_trivial r i (get_or o i 0) (sym e))

pub joined-all : (c o r : List ℕ) → Joined c o r slot_count → BothIs c o r
unfolding Joined BothIs HasSlotClasses
joined-all c o r h M N H K b s hs = h M H s hs ∙ ap (λ f. f s) (entries-~ o N K M b)

-- the restricted name is spared exactly if its slot, the largest in use, is its own class
pub level_spared : (c : List ℕ) (level : ℕ) → name_count + level < slot_count → get_or c (name_count + level) 0 ≡ name_count + level → AloneIs c level true
unfolding AloneIs HasClasses
level_spared c level h e M H b = sym (slot_spared name_count level M b (sym (H (name_count + level) h) ∙ e))

pub level_merged : (c : List ℕ) (level : ℕ) → name_count + level < slot_count → (get_or c (name_count + level) 0 ≡ name_count + level → ⊥) → AloneIs c level false
unfolding AloneIs HasClasses
level_merged c level h e M H b = go (restricted_alone M) refl
  where
    go : (t : Bool) → restricted_alone M ≡ t → false ≡ t
    go true q = absurd (e (H (name_count + level) h ∙ spared_slot name_count level M b q))
    go false q = refl

pub level_alone : (c : List ℕ) (level : ℕ) → name_count + level < slot_count → AloneIs c level (eqb (get_or c (name_count + level) 0) (name_count + level))
level_alone c level h = go (eqb (get_or c (name_count + level) 0) (name_count + level)) refl
  where
    go : (t : Bool) → eqb (get_or c (name_count + level) 0) (name_count + level) ≡ t → AloneIs c level t
    go true q = level_spared c level h (eqb-true _ _ q)
    go false q = level_merged c level h (λ e. let h = eq-eqb (get_or c (name_count + level) 0) (name_count + level) e in let z : ◌≡◌ {A = ℕ} 0 1 = cc in omega arith)
