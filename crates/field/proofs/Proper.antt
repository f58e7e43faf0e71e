-- Proper situations: those that the field of an accepted question holds. What `situation` keeps of a distinction says what matters for the
-- two parts, and is written in one way only. Assumes nothing.
use borrow.Author.Tests.{eqb-true}
use mathlib.Core.Bool.{Bool, true, false, cond, ◌&&◌}
use mathlib.Core.List.{List, [], ◌∷◌, ◌++◌, map}
use mathlib.Core.Logic.{◌≢◌, ◌⊎◌, inl, inr, ◌↔◌}
use mathlib.Core.Path.{◌≡◌, refl, sym, ◌∙◌, ap, ap₂, subst}
use native.Mathlib.Decide.{ℕ_discrete}
use native.Mathlib.Omega.{arith}
use Prim.Native.Nat.{ℕ, zero, suc, ◌+◌, ◌<◌, ◌≤◌}
use lib.Dec.{eqb}
use Rattle.calculus.specs.Term.{Term}
use Rattle.calculus.specs.Free.{In, fn}
use Rattle.calculus.specs.Cond.{Pairs}
use Rattle.calculus.specs.Distinction.{Apart, Irr, among, keep}
use Rattle.calculus.specs.Definitions.{Defs}
use Rattle.calculus.specs.OpenBisimulation.{Related}
use Rattle.calculus.proofs.Distinctions.{apart_at, apart_sym, apart_left, apart_right, of_apart_++}
use Rattle.calculus.proofs.Selection.{in_among, among_in}
use Rattle.calculus.proofs.UpToRenaming.{Either, either→fn, fn→either}
use Rattle.calculus.proofs.Theorems.{Agree, related_cut}
use Rattle.terms.specs.Encoding.{encode, InScope}
use Rattle.terms.specs.Operations.{holds_apart}
use Rattle.terms.specs.Question.{pair_bytes}
use Rattle.terms.specs.Edition.{one}
use Rattle.terms.specs.Reading.{numbered, read_whole}
use Rattle.terms.proofs.Answers.{result_injective, both_true}
use Rattle.terms.proofs.ApartLaws.{holds_apart_lem, apart_holds}
use Rattle.terms.proofs.EditionOne.{read_whole_first}
use Rattle.terms.proofs.ScopeLaws.{free_below}
use Rattle.calculus.specs.Lists.{◌∈◌}
pub use Rattle.field.specs.Situation.{Proper}
use Rattle.field.specs.Situation.{Situation, free_from, free_in, pairs_of, situation, same_bytes, same_situation}
use Rattle.field.proofs.Selections.{∈-select, select-∈, select-same, keep-select}

-- Pairs of a list, read symmetrically.
abbrev Holds : Pairs → ℕ → ℕ → Type 0
Holds D a b = ◌∈◌ {A = ℕ × ℕ} (a, b) D

apart_∈ : (D : Pairs) (a b : ℕ) → Apart D a b → Holds D a b ⊎ Holds D b a
apart_∈ [] a b x' = elim x' [ ]
apart_∈ (p ∷ D) a b (inl (h, k)) = inl (inl (λ i. (sym h i, sym k i)))
apart_∈ (p ∷ D) a b (inr (inl (h, k))) = inr (inl (λ i. (sym h i, sym k i)))
apart_∈ (p ∷ D) a b (inr (inr h)) = go (apart_∈ D a b h)
  where
    go : Holds D a b ⊎ Holds D b a → Holds (p ∷ D) a b ⊎ Holds (p ∷ D) b a
    go (inl m) = inl (inr m)
    go (inr m) = inr (inr m)

∈_apart : (D : Pairs) (a b : ℕ) → Holds D a b → Apart D a b
∈_apart [] a b x' = elim x' [ ]
∈_apart (p ∷ D) a b (inl e) = inl (sym (ap (λ q. q.0) e), sym (ap (λ q. q.1) e))
∈_apart (p ∷ D) a b (inr m) = inr (inr (∈_apart D a b m))

∈_apart_back : (D : Pairs) (a b : ℕ) → Holds D b a → Apart D a b
∈_apart_back [] a b x' = elim x' [ ]
∈_apart_back (p ∷ D) a b (inl e) = inr (inl (sym (ap (λ q. q.0) e), sym (ap (λ q. q.1) e)))
∈_apart_back (p ∷ D) a b (inr m) = inr (inr (∈_apart_back D a b m))

-- The free names below a number.
pub free_from_lem : (F : List ℕ) (n k m : ℕ) → In m (free_from F n k) → In m F
unfolding free_from
free_from_lem F n zero m i = elim i [ ]
free_from_lem F n (suc k) m i = go (among F n) refl i (λ j. free_from_lem F (suc n) k m j)
  where
    go : (b : Bool) → among F n ≡ b → In m (cond b (n ∷ free_from F (suc n) k) (free_from F (suc n) k)) → (In m (free_from F (suc n) k) → In m F) → In m F
    go true e (inl h) r = subst (λ j. In j F) (sym h) (among_in F n e)
    go true e (inr j) r = r j
    go false e j r = r j

pub from_free : (F : List ℕ) (n k m : ℕ) → In m F → n ≤ m → m < n + k → In m (free_from F n k)
unfolding free_from
from_free F n zero m i h l = absurd (omega arith)
from_free F n (suc k) m i h l = go (among F n) refl (ℕ_discrete m n) (λ h'. from_free F (suc n) k m i h' (omega arith))
  where
    go : (b : Bool) → among F n ≡ b → Dec (m ≡ n) → (suc n ≤ m → In m (free_from F (suc n) k)) → In m (cond b (n ∷ free_from F (suc n) k) (free_from F (suc n) k))
    go true e (yes d) r = inl d
    go true e (no d) r = inr (r (omega arith))
    go false e (yes d) r =
        let z : ◌≡◌ {A = ℕ} 0 1 = cc (in_among F n (subst (λ j. In j F) d i)) in absurd (omega arith)
    go false e (no d) r = r (omega arith)

-- Every two members of a list make a pair.
pub row : (a : ℕ) (bs : List ℕ) (b : ℕ) → In b bs → Apart (map (λ b. (a, b)) bs) a b
row a [] b x' = elim x' [ ]
row a (c ∷ bs) b (inl e) = inl (refl, sym e)
row a (c ∷ bs) b (inr m) = inr (inr (row a bs b m))

of_row : (c : ℕ) (bs : List ℕ) (a b : ℕ) → Apart (map (λ b. (c, b)) bs) a b → In a (c ∷ bs) × In b (c ∷ bs)
of_row c [] a b x' = elim x' [ ]
of_row c (d ∷ bs) a b (inl (h, k)) = (inl (sym h), inr (inl (sym k)))
of_row c (d ∷ bs) a b (inr (inl (h, k))) = (inr (inl (sym k)), inl (sym h))
of_row c (d ∷ bs) a b (inr (inr r)) = let (i, j) = of_row c bs a b r in (wider i, wider j)
  where
    wider : {n : ℕ} → In n (c ∷ bs) → In n (c ∷ d ∷ bs)
    wider (inl e) = inl e
    wider (inr m) = inr (inr m)

pairs_of_lem : (F : List ℕ) (a b : ℕ) → In a F → In b F → a ≢ b → Apart (pairs_of F) a b
unfolding pairs_of
pairs_of_lem [] a b x3 _ h = elim x3 [ ]
pairs_of_lem (c ∷ F) a b (inl i) (inl j) h = absurd (h (i ∙ sym j))
pairs_of_lem (c ∷ F) a b (inl i) (inr j) h =
    apart_left (map (λ b. (c, b)) F) (pairs_of F) a b (apart_at (map (λ b. (c, b)) F) i refl (row c F b j))
pairs_of_lem (c ∷ F) a b (inr i) (inl j) h =
    let E : Pairs = map (λ b. (c, b)) F in
    apart_left E (pairs_of F) a b (apart_at E refl j (apart_sym E c a (row c F a i)))
pairs_of_lem (c ∷ F) a b (inr i) (inr j) h = apart_right (map (λ b. (c, b)) F) (pairs_of F) a b (pairs_of_lem F a b i j h)

of_pairs : (F : List ℕ) (a b : ℕ) → Apart (pairs_of F) a b → In a F × In b F
unfolding pairs_of
of_pairs [] a b d = elim d [ ]
of_pairs (c ∷ F) a b d = go (of_apart_++ (map (λ b. (c, b)) F) (pairs_of F) a b d) (of_pairs F a b)
  where
    go : Apart (map (λ b. (c, b)) F) a b ⊎ Apart (pairs_of F) a b → (Apart (pairs_of F) a b → In a F × In b F) → In a (c ∷ F) × In b (c ∷ F)
    go (inl h) r = of_row c F a b h
    go (inr h) r = let (i, j) = r h in (inr i, inr j)

-- the two tests agree where the two distinctions do
same_test : (D E : Pairs) (a b : ℕ) → Apart D a b ↔ Apart E a b → holds_apart D a b ≡ holds_apart E a b
same_test D E a b (f, g) = go (holds_apart D a b) refl (holds_apart E a b) refl
  where
    clash : {A : Type 0} → ◌≡◌ {A = Bool} true false → A
    clash e = let z : ◌≡◌ {A = ℕ} 0 1 = cc in absurd (omega arith)

    go : (s : Bool) → holds_apart D a b ≡ s → (t : Bool) → holds_apart E a b ≡ t → holds_apart D a b ≡ holds_apart E a b
    go true h true k = h ∙ sym k
    go true h false k = clash (sym (apart_holds E a b (f (holds_apart_lem D a b h))) ∙ k)
    go false h true k = clash (sym (apart_holds D a b (g (holds_apart_lem E a b k))) ∙ h)
    go false h false k = h ∙ sym k

module _ (names : ℕ) (P Q : Term) where
  abbrev pairs : Pairs
  pairs = pairs_of (free_in names P Q)

  pub free_either : (n : ℕ) → In n (free_in names P Q) → Either n P Q
  unfolding free_in
  free_either n i = fn→either n P Q (free_from_lem (fn P ++ fn Q) 0 names n i)

  of_free : (a b : ℕ) → Apart pairs a b → Either a P Q × Either b P Q
  of_free a b d = let (i, j) = of_pairs (free_in names P Q) a b d in (free_either a i, free_either b j)

  abbrev test : Pairs → ℕ × ℕ → Bool
  test D p = holds_apart D p.0 p.1

  -- `situation` keeps pairs of the distinction whose names are free in at least one part
  pub situation_apart : (D : Pairs) (a b : ℕ) → Apart (situation names P Q D).apart a b → Apart D a b × Either a P Q × Either b P Q
  unfolding situation
  situation_apart D a b d = go (apart_∈ (keep (holds_apart D) pairs) a b d)
    where
      kept : (p : ℕ × ℕ) → p ∈ keep (holds_apart D) pairs → (p ∈ pairs) × (test D p ≡ true)
      kept p m = select-∈ (test D) p pairs (subst (λ E. p ∈ E) (keep-select (holds_apart D) pairs) m)

      go : Holds (keep (holds_apart D) pairs) a b ⊎ Holds (keep (holds_apart D) pairs) b a → Apart D a b × Either a P Q × Either b P Q
      go (inl m) =
          let (n, e) = kept (a, b) m in
          let (i, j) = of_free a b (∈_apart pairs a b n) in
          (holds_apart_lem D a b e, i, j)
      go (inr m) =
          let (n, e) = kept (b, a) m in
          let (i, j) = of_free a b (∈_apart_back pairs a b n) in
          (apart_sym D b a (holds_apart_lem D b a e), i, j)

  -- Distinctions that agree on the names free in the parts make the same situation.
  pub situation_agreed : (D E : Pairs) → Agree D E P Q → situation names P Q D ≡ situation names P Q E
  unfolding situation
  situation_agreed D E h =
      ap (λ K. record { first = P; second = Q; apart = K })
      (keep-select (holds_apart D) pairs ∙ select-same (test D) (test E) pairs agree ∙ sym (keep-select (holds_apart E) pairs))
    where
      agree : (p : ℕ × ℕ) → p ∈ pairs → test D p ≡ test E p
      agree p m =
          let (i, j) = of_free p.0 p.1 (∈_apart pairs p.0 p.1 m) in
          same_test D E p.0 p.1 (h p.0 p.1 i j)

  pub either_free : ((n : ℕ) → Either n P Q → n < names) → (n : ℕ) → Either n P Q → In n (free_in names P Q)
  unfolding free_in
  either_free below n f = from_free (fn P ++ fn Q) 0 names n (either→fn n P Q f) (omega arith) (let l = below n f in omega arith)

  module _ (below : (n : ℕ) → Either n P Q → n < names) (D : Pairs) (irr : Irr D) where
    -- and it keeps all of those
    pub apart_situation : (a b : ℕ) → Apart D a b → Either a P Q → Either b P Q → Apart (situation names P Q D).apart a b
    unfolding situation
    apart_situation a b d i j =
        go (apart_∈ pairs a b (pairs_of_lem (free_in names P Q) a b (either_free below a i) (either_free below b j) (irr a b d)))
      where
        kept : (p : ℕ × ℕ) → p ∈ pairs → test D p ≡ true → p ∈ keep (holds_apart D) pairs
        kept p m e = subst (λ E. p ∈ E) (sym (keep-select (holds_apart D) pairs)) (∈-select (test D) p pairs m e)

        go : Holds pairs a b ⊎ Holds pairs b a → Apart (keep (holds_apart D) pairs) a b
        go (inl m) = ∈_apart (keep (holds_apart D) pairs) a b (kept (a, b) m (apart_holds D a b d))
        go (inr m) = ∈_apart_back (keep (holds_apart D) pairs) a b (kept (b, a) m (apart_holds D b a (apart_sym D a b d)))

    pub situation-agrees : Agree D (situation names P Q D).apart P Q
    situation-agrees a b i j = (λ d. apart_situation a b d i j, λ d. (situation_apart D a b d).0)

    pub situation_irr : Irr (situation names P Q D).apart
    situation_irr a b d = irr a b (situation_apart D a b d).0

    -- Cut to the free names of the parts, the pairs relate what they did.
    pub related_situation : (Δ : Defs) → Related Δ D P Q ↔ Related Δ (situation names P Q D).apart P Q
    related_situation Δ = related_cut Δ D (situation names P Q D).apart P Q irr situation_irr situation-agrees

-- the names of two terms in scope
pub either_below : (names : ℕ) (arities : List ℕ) (P Q : Term) → InScope names arities 0 P → InScope names arities 0 Q
    → (n : ℕ) → Either n P Q → n < names
either_below names arities P Q g h n (inl f) = let l = free_below names arities 0 P g n f in omega arith
either_below names arities P Q g h n (inr f) = let l = free_below names arities 0 Q h n f in omega arith

pub situation_proper : (names : ℕ) (arities : List ℕ) (P Q : Term) → InScope names arities 0 P → InScope names arities 0 Q
    → (D : Pairs) → Irr D → Proper names arities (situation names P Q D)
unfolding situation
situation_proper names arities P Q g h D irr =
    let below = either_below names arities P Q g h in
    record {
      first = g;
      second = h;
      distinction = situation_irr names P Q below D irr;
      canonical = situation_agreed names P Q D (situation names P Q D).apart (situation-agrees names P Q below D irr);
    }

-- The apart pairs of a proper situation are of names free in at least one part.
pub proper_apart : (names : ℕ) (arities : List ℕ) (s : Situation) → Proper names arities s → (a b : ℕ) → Apart s.apart a b
    → Either a s.first s.second × Either b s.first s.second
proper_apart names arities s p a b d =
    let (_, i, j) = situation_apart names s.first s.second s.apart a b (subst (λ t. Apart t.apart a b) p.canonical d) in
    (i, j)

-- Equal bytes.
bytes_same : (xs ys : List ℕ) → same_bytes xs ys ≡ true → xs ≡ ys
unfolding same_bytes
bytes_same [] [] e = refl
bytes_same [] (y ∷ ys) e = let z : ◌≡◌ {A = ℕ} 0 1 = cc in absurd (omega arith)
bytes_same (x ∷ xs) [] e = let z : ◌≡◌ {A = ℕ} 0 1 = cc in absurd (omega arith)
bytes_same (x ∷ xs) (y ∷ ys) e =
    let (h, k) = both_true (eqb x y) (same_bytes xs ys) e in
    ap₂ ◌∷◌ (eqb-true x y h) (bytes_same xs ys k)

pairs-same : (D E : Pairs) → pair_bytes D ≡ pair_bytes E → D ≡ E
unfolding pair_bytes
pairs-same [] [] e = refl
pairs-same [] (q ∷ E) e = let z : ◌≡◌ {A = ℕ} 0 1 = cc in absurd (omega arith)
pairs-same (p ∷ D) [] e = let z : ◌≡◌ {A = ℕ} 0 1 = cc in absurd (omega arith)
pairs-same (p ∷ D) (q ∷ E) e =
    let h : p.0 ≡ q.0 = cc in
    let k : p.1 ≡ q.1 = cc in
    let t : pair_bytes D ≡ pair_bytes E = cc in
    λ i. (h i, k i) ∷ pairs-same D E t i

module _ (names : ℕ) (few : names ≤ 128) (arities : List ℕ) where
  pub encode_same : (P Q : Term) → InScope names arities 0 P → InScope names arities 0 Q → encode 0 P ≡ encode 0 Q → P ≡ Q
  encode_same P Q g h e =
      result_injective (sym (read_whole_first names few arities 0 P g) ∙ ap (read_whole one (numbered arities) names 0) e ∙ read_whole_first names few arities 0 Q h)

  -- on proper situations the test of equality is exact
  pub same_equal : (s t : Situation) → Proper names arities s → Proper names arities t → same_situation s t ≡ true → s ≡ t
  unfolding same_situation
  same_equal s t p q e =
      let (h, k) = both_true (same_bytes (encode 0 s.first) (encode 0 t.first) && same_bytes (encode 0 s.second) (encode 0 t.second))
      (same_bytes (pair_bytes s.apart) (pair_bytes t.apart)) e in
      let (l, m) = both_true (same_bytes (encode 0 s.first) (encode 0 t.first)) (same_bytes (encode 0 s.second) (encode 0 t.second)) h in
      let a : s.first ≡ t.first = encode_same s.first t.first p.first q.first (bytes_same (encode 0 s.first) (encode 0 t.first) l) in
      let b : s.second ≡ t.second = encode_same s.second t.second p.second q.second (bytes_same (encode 0 s.second) (encode 0 t.second) m) in
      let c : s.apart ≡ t.apart = pairs-same s.apart t.apart (bytes_same (pair_bytes s.apart) (pair_bytes t.apart) k) in
      λ i. record { first = a i; second = b i; apart = c i }
