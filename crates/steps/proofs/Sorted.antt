-- Steps put into a list by their bytes: the list ascends, and holds what was put in and no more. Assumes nothing.
use mathlib.Core.List.{List, [], ◌∷◌}
use mathlib.Core.Logic.{◌⊎◌, inl, inr}
use mathlib.Core.Path.{◌≡◌, refl, sym, ◌∙◌, ap, subst}
use native.Mathlib.Omega.{arith}
use Prim.Native.Nat.{ℕ, Ordering}
use Rattle.calculus.specs.Abstraction.{Act}
use Rattle.calculus.specs.Term.{Term}
use Rattle.calculus.specs.Cond.{Cond}
use Rattle.steps.specs.Raw.{Candidate, step, blocked}
use Rattle.calculus.specs.Lists.{◌∈◌, Among, All}
use Rattle.calculus.proofs.Membership.{all_imp, all-∈}
use Rattle.steps.specs.Derived.{Ascending}
use Rattle.steps.specs.Listed.{ListedStep, canon_step, bytes}
use Rattle.steps.specs.Listing.{order, insert, collect}
use Rattle.steps.proofs.ByteOrder.{Before, Says, ordered, before_irreflexive, before_trans, before-order, order-before}

module _ (longest : ℕ) where
  -- the bytes of s come before those of t
  abbrev pub Precedes : ListedStep → ListedStep → Type 0
  Precedes s t = Before (bytes longest s) (bytes longest t)

  abbrev pub Sorted : List ListedStep → Type 0
  Sorted [] = Unit
  Sorted (s ∷ ss) = All (Precedes s) ss × Sorted ss

  -- `insert` at one place
  abbrev pub placed : ListedStep → ListedStep → List ListedStep → List ListedStep → Ordering → List ListedStep
  placed s t ts rest o = elim o [ Ordering.lt ↦ s ∷ t ∷ ts | Ordering.eq ↦ t ∷ ts | Ordering.gt ↦ t ∷ rest ]

  pub insert_all : (S : ListedStep → Type 0) (s : ListedStep) (ts : List ListedStep) → S s → All S ts → All S (insert longest s ts)
  unfolding insert
  insert_all S s [] h a = (h, tt)
  insert_all S s (t ∷ ts) h a = go (order (bytes longest s) (bytes longest t)) (insert_all S s ts h a.1)
    where
      go : (o : Ordering) → All S (insert longest s ts) → All S (placed s t ts (insert longest s ts) o)
      go Ordering.lt r = (h, a)
      go Ordering.eq r = a
      go Ordering.gt r = (a.0, r)

  pub insert_sorted : (s : ListedStep) (ts : List ListedStep) → Sorted ts → Sorted (insert longest s ts)
  unfolding insert
  insert_sorted s [] a = (tt, tt)
  insert_sorted s (t ∷ ts) a =
      go (order (bytes longest s) (bytes longest t)) (ordered (bytes longest s) (bytes longest t)) (insert_sorted s ts a.1)
    where
      go : (o : Ordering) → Says Before (bytes longest s) (bytes longest t) o → Sorted (insert longest s ts)
          → Sorted (placed s t ts (insert longest s ts) o)
      go Ordering.lt h r = (
        (h, all_imp (Precedes t) (Precedes s) ts (λ u k. before_trans (bytes longest s) (bytes longest t) (bytes longest u) h k) a.0),
        a,
      )
      go Ordering.eq h r = a
      go Ordering.gt h r = (insert_all (Precedes t) s ts h a.0, r)

  pub insert-old : (s : ListedStep) (ts : List ListedStep) (u : ListedStep) → u ∈ ts → u ∈ insert longest s ts
  unfolding insert
  insert-old s [] u m = elim m [ ]
  insert-old s (t ∷ ts) u m = go (order (bytes longest s) (bytes longest t)) m (λ l. insert-old s ts u l)
    where
      go : (o : Ordering) → u ∈ (t ∷ ts) → (u ∈ ts → u ∈ insert longest s ts) → u ∈ placed s t ts (insert longest s ts) o
      go Ordering.lt m r = inr m
      go Ordering.eq m r = m
      go Ordering.gt (inl e) r = inl e
      go Ordering.gt (inr l) r = inr (r l)

  -- a step whose bytes are those of s is in the list
  abbrev pub HasBytes : ListedStep → List ListedStep → Type 0
  HasBytes s ts = (u : ListedStep) × (u ∈ ts) × (bytes longest s ≡ bytes longest u)

  pub insert-new : (s : ListedStep) (ts : List ListedStep) → HasBytes s (insert longest s ts)
  unfolding insert
  insert-new s [] = (s, inl refl, refl)
  insert-new s (t ∷ ts) =
      go (order (bytes longest s) (bytes longest t)) (ordered (bytes longest s) (bytes longest t)) (insert-new s ts)
    where
      go : (o : Ordering) → Says Before (bytes longest s) (bytes longest t) o → HasBytes s (insert longest s ts)
          → HasBytes s (placed s t ts (insert longest s ts) o)
      go Ordering.lt h r = (s, inl refl, refl)
      go Ordering.eq h r = (t, inl refl, h)
      go Ordering.gt h r = (r.0, inr r.1, r.2)

  -- a step whose bytes are there changes nothing
  pub insert_there : (s : ListedStep) (ts : List ListedStep) → Sorted ts → HasBytes s ts → insert longest s ts ≡ ts
  unfolding insert
  insert_there s [] a (u, x, e) = elim x [ ]
  insert_there s (t ∷ ts) a (u, m, e) =
      go (order (bytes longest s) (bytes longest t)) (ordered (bytes longest s) (bytes longest t)) m
      (λ n. insert_there s ts a.1 (u, n, e))
    where
      behind : u ∈ ts → Precedes t s
      behind n = subst (λ b. Before (bytes longest t) b) (sym e) (all-∈ (Precedes t) ts a.0 u n)

      go : (o : Ordering) → Says Before (bytes longest s) (bytes longest t) o → u ∈ (t ∷ ts) → (u ∈ ts → insert longest s ts ≡ ts) → placed s t ts (insert longest s ts) o ≡ t ∷ ts
      go Ordering.lt h (inl d) f =
          absurd (before_irreflexive (bytes longest s) (subst (λ b. Before (bytes longest s) b) (sym (e ∙ ap (bytes longest) d)) h))
      go Ordering.lt h (inr n) f =
          absurd (before_irreflexive (bytes longest s) (before_trans (bytes longest s) (bytes longest t) (bytes longest s) h (behind n)))
      go Ordering.eq h n f = refl
      go Ordering.gt h (inl d) f =
          absurd (before_irreflexive (bytes longest s) (subst (λ b. Before b (bytes longest s)) (sym (e ∙ ap (bytes longest) d)) h))
      go Ordering.gt h (inr n) f = ap (λ l. t ∷ l) (f n)

-- The list in ascending order, as the definition says it.
pub sorted_ascending : (longest : ℕ) (ss : List ListedStep) → Sorted longest ss → Ascending longest ss
sorted_ascending longest [] a = tt
sorted_ascending longest (s ∷ ss) a = (
  all_imp (Precedes longest s) (λ t. order (bytes longest s) (bytes longest t) ≡ Ordering.lt) ss
      (λ t b. before-order (bytes longest s) (bytes longest t) b) a.0,
  sorted_ascending longest ss a.1,
)

pub ascending_sorted : (longest : ℕ) (ss : List ListedStep) → Ascending longest ss → Sorted longest ss
ascending_sorted longest [] a = tt
ascending_sorted longest (s ∷ ss) a = (
  all_imp (λ t. order (bytes longest s) (bytes longest t) ≡ Ordering.lt) (Precedes longest s) ss
      (λ t b. order-before (bytes longest s) (bytes longest t) b) a.0,
  ascending_sorted longest ss a.1,
)

module _ (form : Term → Term) (names longest x : ℕ) where
  pub collect_sorted : (cs : List Candidate) (found : List ListedStep) → Sorted longest found
      → Sorted longest (collect form names longest x cs found)
  unfolding collect
  collect_sorted [] found a = a
  collect_sorted (step M α P ∷ cs) found a =
      collect_sorted cs (insert longest (canon_step form names x M α P) found) (insert_sorted longest (canon_step form names x M α P) found a)
  collect_sorted (blocked ∷ cs) found a = collect_sorted cs found a

  -- what holds of each candidate's listed step holds of each in the list
  abbrev pub OfCandidate : (ListedStep → Type 0) → Candidate → Type 0
  OfCandidate S (step M α P) = S (canon_step form names x M α P)
  OfCandidate S blocked = Unit

  pub collect-all : (S : ListedStep → Type 0) (cs : List Candidate) (found : List ListedStep) → All (OfCandidate S) cs → All S found
      → All S (collect form names longest x cs found)
  unfolding collect
  collect-all S [] found h a = a
  collect-all S (step M α P ∷ cs) found h a =
      collect-all S cs (insert longest (canon_step form names x M α P) found) h.1 (insert_all longest S (canon_step form names x M α P) found h.0 a)
  collect-all S (blocked ∷ cs) found h a = collect-all S cs found h.1 a

  pub collect-old : (cs : List Candidate) (found : List ListedStep) (u : ListedStep) → u ∈ found → u ∈ collect form names longest x cs found
  unfolding collect
  collect-old [] found u m = m
  collect-old (step M α P ∷ cs) found u m =
      collect-old cs (insert longest (canon_step form names x M α P) found) u (insert-old longest (canon_step form names x M α P) found u m)
  collect-old (blocked ∷ cs) found u m = collect-old cs found u m

  same_step : (M N : Cond) (α β : Act) (P Q : Term) → step M α P ≡ step N β Q → canon_step form names x M α P ≡ canon_step form names x N β Q
  same_step M N α β P Q e = cc

  pub collect-new : (cs : List Candidate) (found : List ListedStep) (M : Cond) (α : Act) (P : Term) → step M α P ∈ cs
      → HasBytes longest (canon_step form names x M α P) (collect form names longest x cs found)
  unfolding collect
  collect-new [] found M α P x'' = elim x'' [ ]
  collect-new (step N β Q ∷ cs) found M α P (inl e) =
      let s : ListedStep = canon_step form names x N β Q in
      let (u, m, b) = insert-new longest s found in
      (u, collect-old cs (insert longest s found) u m, ap (bytes longest) (same_step M N α β P Q e) ∙ b)
  collect-new (step N β Q ∷ cs) found M α P (inr m) = collect-new cs (insert longest (canon_step form names x N β Q) found) M α P m
  collect-new (blocked ∷ cs) found M α P (inl e) = let z : ◌≡◌ {A = ℕ} 0 1 = cc in absurd (omega arith)
  collect-new (blocked ∷ cs) found M α P (inr m) = collect-new cs found M α P m

-- Two ascending lists with the same steps are the same.
module _ (longest : ℕ) where
  behind-first : (s : ListedStep) (ss : List ListedStep) → Sorted longest (s ∷ ss) → (u : ListedStep) → u ∈ ss → Precedes longest s u
  behind-first s ss a u m = all-∈ (Precedes longest s) ss a.0 u m

  rest-among : (s t : ListedStep) (ss ts : List ListedStep) → s ≡ t → Sorted longest (s ∷ ss) → Among (s ∷ ss) (t ∷ ts) → Among ss ts
  rest-among s t ss ts e a h u m = go (h u (inr m))
    where
      go : (u ≡ t) ⊎ (u ∈ ts) → u ∈ ts
      go (inl d) =
          absurd (before_irreflexive (bytes longest s) (subst (λ v. Precedes longest s v) (d ∙ sym e) (behind-first s ss a u m)))
      go (inr n) = n

  pub sorted_same : (ss ts : List ListedStep) → Sorted longest ss → Sorted longest ts → Among ss ts → Among ts ss → ss ≡ ts
  sorted_same [] [] a b h k = refl
  sorted_same [] (t ∷ ts) a b h k = absurd (k t (inl refl))
  sorted_same (s ∷ ss) [] a b h k = absurd (h s (inl refl))
  sorted_same (s ∷ ss) (t ∷ ts) a b h k =
      let e : s ≡ t = first (h s (inl refl)) (k t (inl refl)) in
      let r : ss ≡ ts =
      sorted_same ss ts a.1 b.1 (rest-among s t ss ts e a h) (rest-among t s ts ss (sym e) b k) in
      λ i. e i ∷ r i
    where
      first : (s ≡ t) ⊎ (s ∈ ts) → (t ≡ s) ⊎ (t ∈ ss) → s ≡ t
      first (inl e) n = e
      first (inr m) (inl e) = sym e
      first (inr m) (inr n) =
          absurd (before_irreflexive (bytes longest s)
          (before_trans (bytes longest s) (bytes longest t) (bytes longest s) (behind-first s ss a t n) (behind-first t ts b s m)))
