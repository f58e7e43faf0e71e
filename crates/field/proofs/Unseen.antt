-- What exploration adds to the situations it knows: those it leads to that are not among them, each once. Distinctness rests on the test of
-- equality being reflexive alone; that nothing is left out, on its being exact. Assumes nothing.
use mathlib.Core.Bool.{Bool, true, false, cond, ◌||◌}
use mathlib.Core.List.{List, [], ◌∷◌, ◌++◌}
use mathlib.Core.Logic.{◌⊎◌, inl, inr}
use mathlib.Core.Path.{◌≡◌, refl, sym, subst}
use native.Mathlib.Omega.{arith}
use Prim.Native.Nat.{ℕ}
use borrow.Author.Tests.{eq-eqb}
use Rattle.terms.specs.Encoding.{encode}
use Rattle.terms.specs.Question.{pair_bytes}
use Rattle.calculus.specs.Lists.{◌∈◌, All, Distinct}
use Rattle.calculus.proofs.Membership.{∈-left, ∈_right}
use Rattle.field.specs.Situation.{Situation, same_bytes, same_situation}
use Rattle.field.specs.Exploration.{found, unseen, together}
use Rattle.field.proofs.Members.{∈_either, distinct_++}

bytes_same : (xs : List ℕ) → same_bytes xs xs ≡ true
unfolding same_bytes
bytes_same [] = refl
bytes_same (x ∷ xs) = rw (eq-eqb x x refl, bytes_same xs) refl

pub same_as_itself : (s : Situation) → same_situation s s ≡ true
unfolding same_situation
same_as_itself s = rw (bytes_same (encode 0 s.first), bytes_same (encode 0 s.second), bytes_same (pair_bytes s.apart)) refl

pub ∈-found : (known : List Situation) (s : Situation) → s ∈ known → found known s ≡ true
unfolding found
∈-found [] s x' = elim x' [ ]
∈-found (t ∷ known) s (inl e) = rw (subst (λ u. same_situation s u ≡ true) e (same_as_itself s)) refl
∈-found (t ∷ known) s (inr m) = rw (∈-found known s m) (go (same_situation s t))
  where
    go : (b : Bool) → b || true ≡ true
    go true = refl
    go false = refl

-- the graph of `unseen`, for proofs by its cases
data Added : List Situation → List Situation → List Situation → Type 0 where
  none : {known : List Situation} → Added known [] []
  old : {known ss us : List Situation} {s : Situation} → found known s ≡ true → Added known ss us → Added known (s ∷ ss) us
  new : {known ss us : List Situation} {s : Situation} → found known s ≡ false → Added (s ∷ known) ss us → Added known (s ∷ ss) (s ∷ us)

added : (known ss : List Situation) → Added known ss (unseen known ss)
unfolding unseen
added known [] = none
added known (s ∷ ss) = go (found known s) refl (added known ss) (added (s ∷ known) ss)
  where
    go : (b : Bool) → found known s ≡ b → Added known ss (unseen known ss) → Added (s ∷ known) ss (unseen (s ∷ known) ss)
        → Added known (s ∷ ss) (cond b (unseen known ss) (s ∷ unseen (s ∷ known) ss))
    go true e i j = old e i
    go false e i j = new e j

added-∈ : {known ss us : List Situation} → Added known ss us → (t : Situation) → t ∈ us → t ∈ ss
added-∈ (none {known = known}) t m = elim m [ ]
added-∈ (old e a) t m = inr (added-∈ a t m)
added-∈ (new e a) t (inl d) = inl d
added-∈ (new e a) t (inr m) = inr (added-∈ a t m)

added_new : {known ss us : List Situation} → Added known ss us → (t : Situation) → t ∈ known → ¬ (t ∈ us)
added_new (none {known = known}) t k m = elim m [ ]
added_new (old e a) t k m = added_new a t k m
added_new (new {known = known} {s = s} e a) t k (inl d) =
    let f = ∈-found known s (subst (λ u. u ∈ known) d k) in
    let z : ◌≡◌ {A = ℕ} 0 1 = cc in omega arith
added_new (new e a) t k (inr m) = added_new a t (inr k) m

added_distinct : {known ss us : List Situation} → Added known ss us → Distinct us
added_distinct none = tt
added_distinct (old e a) = added_distinct a
added_distinct (new {s = s} e a) = (added_new a s (inl refl), added_distinct a)

-- What is added was led to; what is known then stands once if what was known did.
module _ (known ss : List Situation) where
  pub unseen-∈ : (t : Situation) → t ∈ unseen known ss → t ∈ ss
  unseen-∈ = added-∈ (added known ss)

  pub unseen_distinct : Distinct known → Distinct (known ++ unseen known ss)
  unseen_distinct d = distinct_++ known (unseen known ss) d (added_distinct (added known ss)) (added_new (added known ss))

-- Nothing is left out, where the test tells the situations apart.
module _ (Good : Situation → Type 0) (exact : (s t : Situation) → Good s → Good t → same_situation s t ≡ true → s ≡ t) where
  pub found-∈ : (known : List Situation) (s : Situation) → All Good known → Good s → found known s ≡ true → s ∈ known
  unfolding found
  found-∈ [] s a g e = let z : ◌≡◌ {A = ℕ} 0 1 = cc in absurd (omega arith)
  found-∈ (t ∷ known) s a g e = go (same_situation s t) refl e (found-∈ known s a.1 g)
    where
      go : (b : Bool) → same_situation s t ≡ b → b || found known s ≡ true → (found known s ≡ true → s ∈ known) → s ∈ (t ∷ known)
      go true h e i = inl (exact s t g a.0 h)
      go false h e i = inr (i e)

  added-all : {known ss us : List Situation} → Added known ss us → All Good known → All Good ss → (t : Situation) → t ∈ ss → t ∈ (known ++ us)
  added-all (none {known = known}) k g t x13 = elim x13 [ ]
  added-all (old {known = known} {us = us} {s = s} e a) k g t (inl d) =
      ∈-left t known us (subst (λ u. u ∈ known) (sym d) (found-∈ known s k g.0 e))
  added-all (old e a) k g t (inr m) = added-all a k g.1 t m
  added-all (new {known = known} {us = us} {s = s} e a) k g t (inl d) = ∈_right t known (s ∷ us) (inl d)
  added-all (new {known = known} {us = us} {s = s} e a) k g t (inr m) = go (added-all a (g.0, k) g.1 t m)
    where
      go : t ∈ (s ∷ (known ++ us)) → t ∈ (known ++ (s ∷ us))
      go (inl d) = ∈_right t known (s ∷ us) (inl d)
      go (inr n) = behind (∈_either t known us n)
        where
          behind : (t ∈ known) ⊎ (t ∈ us) → t ∈ (known ++ (s ∷ us))
          behind (inl i) = ∈-left t known (s ∷ us) i
          behind (inr i) = ∈_right t known (s ∷ us) (inr i)

  pub unseen-all : (known ss : List Situation) → All Good known → All Good ss → (t : Situation) → t ∈ ss → t ∈ (known ++ unseen known ss)
  unseen-all known ss = added-all (added known ss)

-- `together` has the members of all its lists.
pub ∈-together : (ms : List (List Situation)) (m : List Situation) (t : Situation) → m ∈ ms → t ∈ m → t ∈ together ms
unfolding together
∈-together [] m t x'' i = elim x'' [ ]
∈-together (n ∷ ms) m t (inl e) i = ∈-left t n (together ms) (subst (λ l. t ∈ l) e i)
∈-together (n ∷ ms) m t (inr j) i = ∈_right t n (together ms) (∈-together ms m t j i)

pub together-∈ : (ms : List (List Situation)) (t : Situation) → t ∈ together ms → (m : List Situation) × (m ∈ ms) × (t ∈ m)
unfolding together
together-∈ [] t i = elim i [ ]
together-∈ (m ∷ ms) t i = go (∈_either t m (together ms) i) (together-∈ ms t)
  where
    go : (t ∈ m) ⊎ (t ∈ together ms) → (t ∈ together ms → (l : List Situation) × (l ∈ ms) × (t ∈ l)) → (l : List Situation) × (l ∈ (m ∷ ms)) × (t ∈ l)
    go (inl j) r = (m, inl refl, j)
    go (inr j) r = let (l, k, h) = r j in (l, inr k, h)
