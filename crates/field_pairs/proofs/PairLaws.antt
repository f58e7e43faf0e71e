-- Flags of pairs: what one more pair changes, and what they say of a step's condition. Assumes nothing.
use mathlib.Core.Path.{◌≡◌, refl, sym, ap, ap₂, ◌∙◌}
use mathlib.Core.Bool.{Bool, true, false, not, ◌&&◌, ◌||◌}
use mathlib.Core.List.{List, [], ◌∷◌}
use mathlib.Core.Logic.{inl, inr}
use Prim.Native.Nat.{ℕ, ◌+◌, ◌<◌, ◌≤◌}
use native.Mathlib.Decide.{ℕ_discrete, dec_lt}
use native.Mathlib.Omega.{arith}
use lib.ListN.{length, get_or, set, length-map, length-set, get_or-map}
use lib.Seq.{ext_get_or, get_or-set_same, get_or-set_other}
use lib.Dec.{eqb}
use borrow.Author.Count.{below_more}
use borrow.Author.Tests.{eq-eqb, ne_eqb, eqb-true}
use Rattle.calculus.specs.Cond.{Pairs}
use Rattle.calculus.specs.Distinction.{Apart}
use Rattle.calculus.proofs.Distinctions.{apart_sym}
use Rattle.terms.specs.Limits.{name_count}
use Rattle.terms.specs.Operations.{holds_apart}
use Rattle.terms.proofs.ApartLaws.{holds_apart_lem, apart_holds}
use Rattle.steps.specs.Listed.{ListedStep, class_in}
use Rattle.steps_conditions.specs.Conditions.{ClassOfIs, TrivialIs, RespectsIs}
use Rattle.steps_conditions.proofs.ClassBytes.{inside, trivial_own}
use Rattle.field_pairs.specs.Entry.{EntryAt}
use Rattle.field.specs.Situation.{all_pairs}
use Rattle.field_pairs.specs.PairNumbers.{pair_at, number_of}
use Rattle.field_pairs.specs.PairFlags.{pair_count, NumberIs, AddsPair, NoneApartIs, HeldIs, MergedPair, MergesIs, PermittedIs, AllowedIs}
use Rattle.field_pairs.specs.Slot.{flag, flags_of}
use Rattle.field.specs.Successors.{permitted, unconditional, allowed}
use Rattle.field.proofs.ClassTests.{apart_permitted}
use Rattle.field_pairs.proofs.Counting.{Passing}
use Rattle.field_pairs.proofs.EntryLaws.{entry_classes, entry_class, entry-alone}
use Rattle.field_pairs.proofs.NamePairs.{number_right, pair_ordered, pair_below, pair_once, length_pairs}

pub length_flags : (D : Pairs) → length (flags_of D) ≡ pair_count
unfolding flags_of
length_flags D = length-map (all_pairs name_count) (λ p. flag (holds_apart D p.0 p.1)) ∙ length_pairs

-- what the flag of pair k says
pub flag_at : (D : Pairs) (k : ℕ) → k < pair_count → get_or (flags_of D) k 0 ≡ flag (holds_apart D (pair_at name_count k).0 (pair_at name_count k).1)
unfolding flags_of pair_at
flag_at D k h =
    inside (flags_of D) k 0 (flag (holds_apart D 0 0)) (omega (arith, length_flags D))
    ∙ get_or-map (λ p. flag (holds_apart D p.0 p.1)) (all_pairs name_count) k (0, 0)

-- Flags are those of D where each says so.
pub flags_are : (D : Pairs) (l : List ℕ) → length l ≡ pair_count
    → ((k : ℕ) → k < pair_count → get_or l k 0 ≡ flag (holds_apart D (pair_at name_count k).0 (pair_at name_count k).1)) → l ≡ flags_of D
flags_are D l n h =
    ext_get_or 0 l (flags_of D) (n ∙ sym (length_flags D)) (λ k lt. h k (omega arith) ∙ sym (flag_at D k (omega arith)))

-- a pair that is not p says nothing of p
other_pair : (a b x y : ℕ) (D : Pairs) → (a ≡ x → b ≡ y → ⊥) → (a ≡ y → b ≡ x → ⊥) → holds_apart ((a, b) ∷ D) x y ≡ holds_apart D x y
unfolding holds_apart
other_pair a b x y D h k = rw (not_both a b x y h, not_both a b y x k)
  where
    not_both : (a b x y : ℕ) → (a ≡ x → b ≡ y → ⊥) → (eqb a x && eqb b y) ≡ false
    not_both a b x y h = go (ℕ_discrete a x)
      where
        go : Dec (a ≡ x) → (eqb a x && eqb b y) ≡ false
        go (yes e) = rw (eq-eqb a x e, ne_eqb b y (h e))
        go (no n) = rw (ne_eqb a x n)

module _ (flags : List ℕ) (a b : ℕ) where
  -- two numbers that are no pair of names, the smaller first, have no flag
  pub adds_nothing : ((a < b) × (b < name_count) → ⊥) → (a ≤ b) → AddsPair flags a b flags
  unfolding AddsPair
  adds_nothing never le D e = flags_are ((a, b) ∷ D) flags (ap length e ∙ length_flags D) at
    where
      at : (k : ℕ) → k < pair_count → get_or flags k 0 ≡ flag (holds_apart ((a, b) ∷ D) (pair_at name_count k).0 (pair_at name_count k).1)
      at k h =
          let o = pair_ordered k h in
          let l = pair_below k h in
          ap (λ l. get_or l k 0) e ∙ flag_at D k h
          ∙ ap flag (sym (other_pair a b (pair_at name_count k).0 (pair_at name_count k).1 D (λ p q. never (omega arith, omega arith)) (λ p q. omega arith)))

  pub adds_number : (n : ℕ) → NumberIs a b n → AddsPair flags a b (set flags n 1)
  unfolding AddsPair flag
  adds_number n is D e = flags_are ((a, b) ∷ D) (set flags n 1) (length-set flags n 1 ∙ ap length e ∙ length_flags D) (λ k h. at k h (ℕ_discrete k n))
    where
      at : (k : ℕ) → k < pair_count → Dec (k ≡ n) → get_or (set flags n 1) k 0 ≡ flag (holds_apart ((a, b) ∷ D) (pair_at name_count k).0 (pair_at name_count k).1)
      at k h (yes q) =
          rw q
          (get_or-set_same flags n 1 0 (omega (arith, ap length e, length_flags D, is.below))
          ∙ ap flag (sym (apart_holds ((a, b) ∷ D) (pair_at name_count n).0 (pair_at name_count n).1 (inl (sym is.first, sym is.second)))))
      at k h (no d) =
          let o = pair_ordered n is.below in
          let p = pair_ordered k h in
          get_or-set_other flags n k 1 0 d ∙ ap (λ l. get_or l k 0) e ∙ flag_at D k h
          ∙ ap flag (sym (other_pair a b (pair_at name_count k).0 (pair_at name_count k).1 D
          (λ x y. d (pair_once k n h is.below (sym (is.first ∙ x)) (sym (is.second ∙ y))))
          (λ x y. omega (arith, is.first, is.second))))

-- No flag is set.
abbrev pub Unset : List ℕ → ℕ → Type 0
Unset flags k = get_or flags k 0 ≡ 0

pub none_apart_is : (flags : List ℕ) (i : ℕ) (t : Bool) → pair_count ≤ i → Passing (Unset flags) i t → NoneApartIs flags t
unfolding NoneApartIs
none_apart_is flags i t past so q k l = so q k (omega arith)

pub may_be_apart : (flags : List ℕ) → NoneApartIs flags false
unfolding NoneApartIs
may_be_apart flags q = let z : ◌≡◌ {A = ℕ} 0 1 = cc in absurd (omega arith)

-- the order of a pair means nothing
pub adds_swapped : (flags : List ℕ) (a b : ℕ) (flags' : List ℕ) → AddsPair flags b a flags' → AddsPair flags a b flags'
unfolding AddsPair holds_apart
adds_swapped flags a b flags' h D e =
    h D e ∙ flags_are ((a, b) ∷ D) (flags_of ((b, a) ∷ D)) (length_flags ((b, a) ∷ D)) (λ k l. flag_at ((b, a) ∷ D) k l ∙ ap flag (swap (pair_at name_count k).0 (pair_at name_count k).1))
  where
    or_swap : (s t : Bool) → (s || t) ≡ (t || s)
    or_swap true true = refl
    or_swap true false = refl
    or_swap false true = refl
    or_swap false false = refl

    and_swap : (s t : Bool) → (s && t) ≡ (t && s)
    and_swap true true = refl
    and_swap true false = refl
    and_swap false true = refl
    and_swap false false = refl

    swap : (x y : ℕ) → holds_apart ((b, a) ∷ D) x y ≡ holds_apart ((a, b) ∷ D) x y
    swap x y =
        ap (λ t. t || holds_apart D x y)
        (or_swap (eqb b x && eqb a y) (eqb b y && eqb a x) ∙ ap₂ ◌||◌ (and_swap (eqb b y) (eqb a x)) (and_swap (eqb b x) (eqb a y)))

-- A step is not permitted exactly if its condition merges a pair.
merged-refused : (D : Pairs) (s : ListedStep) (a b : ℕ) → Apart D a b → class_in s.classes a ≡ class_in s.classes b → permitted D s ≡ false
unfolding permitted
merged-refused [] s a b x'' z = elim x'' [ ]
merged-refused (p ∷ D) s a b (inl (h, k)) z =
    let c : ℕ → ℕ = class_in s.classes in
    rw (eq-eqb (c p.0) (c p.1) (ap c h ∙ z ∙ ap c (sym k)))
merged-refused (p ∷ D) s a b (inr (inl (h, k))) z =
    let c : ℕ → ℕ = class_in s.classes in
    rw (eq-eqb (c p.0) (c p.1) (ap c h ∙ sym z ∙ ap c (sym k)))
merged-refused (p ∷ D) s a b (inr (inr h)) z =
    rw (merged-refused D s a b h z) (and_false (not (eqb (class_in s.classes p.0) (class_in s.classes p.1))))
  where
    and_false : (t : Bool) → (t && false) ≡ false
    and_false true = refl
    and_false false = refl

refused-merged : (D : Pairs) (s : ListedStep) → permitted D s ≡ false → (a : ℕ) × (b : ℕ) × MergedPair D s a b
unfolding permitted
refused-merged [] s e = let z : ◌≡◌ {A = ℕ} 0 1 = cc in absurd (omega arith)
refused-merged (p ∷ D) s e = go (eqb (class_in s.classes p.0) (class_in s.classes p.1)) refl e (λ h. refused-merged D s h)
  where
    go : (t : Bool) → eqb (class_in s.classes p.0) (class_in s.classes p.1) ≡ t → (not t && permitted D s) ≡ false
        → (permitted D s ≡ false → (a : ℕ) × (b : ℕ) × MergedPair D s a b) → (a : ℕ) × (b : ℕ) × MergedPair (p ∷ D) s a b
    go true h k r =
        (p.0, p.1, record { apart = inl (refl, refl); merged = eqb-true (class_in s.classes p.0) (class_in s.classes p.1) h })
    go false h k r = let (a, b, m) = r k in (a, b, record { apart = inr (inr m.apart); merged = m.merged })

-- held_apart
module _ (flags : List ℕ) (a b k : ℕ) (n : NumberIs a b k) where
  held : (D : Pairs) → flags ≡ flags_of D → get_or flags k 0 ≡ flag (holds_apart D a b)
  held D e = ap (λ l. get_or l k 0) e ∙ flag_at D k n.below ∙ ap₂ (λ x y. flag (holds_apart D x y)) n.first n.second

  pub held_ordered : a < b → (v : ℕ) → v ≡ get_or flags k 0 → HeldIs flags a b (not (eqb v 0))
  unfolding flag
  held_ordered l v e = record { is = λ D f d. go D f (holds_apart D a b) refl; alone = λ z. absurd (omega arith) }
    where
      go : (D : Pairs) → flags ≡ flags_of D → (t : Bool) → holds_apart D a b ≡ t → not (eqb v 0) ≡ holds_apart D a b
      go D f true q = let z : v ≡ 1 = e ∙ held D f ∙ ap flag q in rw (z, q)
      go D f false q = let z : v ≡ 0 = e ∙ held D f ∙ ap flag q in rw (z, q)

-- the order means nothing
pub held_swapped : (flags : List ℕ) (a b : ℕ) (r : Bool) → HeldIs flags b a r → HeldIs flags a b r
held_swapped flags a b r h = record {
  is = λ D e d. h.is D e (λ z. d (sym z)) ∙ go D (holds_apart D a b) (holds_apart D b a) refl refl;
  alone = λ z. h.alone (sym z);
}
  where
    go : (D : Pairs) (t u : Bool) → holds_apart D a b ≡ t → holds_apart D b a ≡ u → holds_apart D b a ≡ holds_apart D a b
    go D true u p q = apart_holds D b a (apart_sym D a b (holds_apart_lem D a b p)) ∙ sym p
    go D false true p q =
        let z = apart_holds D a b (apart_sym D b a (holds_apart_lem D b a q)) in
        let y : ◌≡◌ {A = ℕ} 0 1 = cc in absurd (omega arith)
    go D false false p q = q ∙ sym p

pub held_alone : (flags : List ℕ) (a b : ℕ) → a ≡ b → HeldIs flags a b false
held_alone flags a b e = record { is = λ D f d. absurd (d e); alone = λ z. refl }

-- merges_apart: the names below m are none that n is merged with and apart from
abbrev pub Spared : List ℕ → List ℕ → ℕ → ℕ → ℕ → Type 0
Spared flags area at n m =
    (D : Pairs) (s : ListedStep) → flags ≡ flags_of D → EntryAt area at s → (j : ℕ) → j < m → (j ≡ n → ⊥) → MergedPair D s j n → ⊥

module _ (flags area : List ℕ) (at n m : ℕ) (l : n < name_count) (h : m < name_count) where
  pub spared_held : (r : Bool) → HeldIs flags m n r → r ≡ false → Spared flags area at n m → Spared flags area at n (m + 1)
  spared_held r h q so D s e f =
      below_more _ m (so D s e f) (λ k p.
      let z : holds_apart D m n ≡ false = sym (h.is D e k) ∙ q in
      let y = apart_holds D m n p.apart in
      let x : ◌≡◌ {A = ℕ} 0 1 = cc in omega arith)

  module _ (t : Bool) (R : RespectsIs area at m n t) where
    pub spared_respected : t ≡ true → Spared flags area at n m → Spared flags area at n (m + 1)
    spared_respected q so D s e f =
        below_more _ m (so D s e f) (λ k p. R.apart q (entry_class area at s f m h ∙ p.merged ∙ sym (entry_class area at s f n l)))

    pub merged_held : t ≡ false → (r : Bool) → HeldIs flags m n r → r ≡ true → MergesIs flags area at n true
    merged_held c r held q = record {
      some = λ z D s e f. (
        m,
        record {
          apart = holds_apart_lem D m n (sym (held.is D e (λ k. let y = held.alone k in let x : ◌≡◌ {A = ℕ} 0 1 = cc in omega arith)) ∙ q);
          merged = sym (entry_class area at s f m h) ∙ R.merged c ∙ entry_class area at s f n l;
        },
      );
      none = λ z. let x : ◌≡◌ {A = ℕ} 0 1 = cc in absurd (omega arith);
    }

pub spared_all : (flags area : List ℕ) (at n m : ℕ) → name_count ≤ m → Spared flags area at n m → MergesIs flags area at n false
spared_all flags area at n m past so = record {
  some = λ z. let x : ◌≡◌ {A = ℕ} 0 1 = cc in absurd (omega arith);
  none = λ z D s e f j l. so D s e f j (omega arith);
}

-- permitted: no name below n that has another class than itself is merged with one that is apart from it
abbrev pub Respected : List ℕ → List ℕ → ℕ → ℕ → Type 0
Respected flags area at n =
    (D : Pairs) (s : ListedStep) → flags ≡ flags_of D → EntryAt area at s → (j : ℕ) → j < n → (class_in s.classes j ≡ j → ⊥)
    → (m : ℕ) → m < name_count → (m ≡ j → ⊥) → MergedPair D s m j → ⊥

module _ (flags area : List ℕ) (at : ℕ) where
  pub respected_own : (n class : ℕ) → ClassOfIs area at n class → class ≡ n → Respected flags area at n → Respected flags area at (n + 1)
  unfolding ClassOfIs
  respected_own n class C q so D s e f = below_more _ n (so D s e f) (λ k. absurd (k (sym (C s.classes (entry_classes area at s f)) ∙ q)))

  pub respected_next : (n : ℕ) (r : Bool) → MergesIs flags area at n r → r ≡ false → Respected flags area at n → Respected flags area at (n + 1)
  respected_next n r h q so D s e f = below_more _ n (so D s e f) (λ k. h.none q D s e f)

  pub merged-found : (n : ℕ) (r : Bool) → MergesIs flags area at n r → r ≡ true → PermittedIs flags area at false
  unfolding PermittedIs
  merged-found n r h q D s irr e f = let (m, p) = h.some q D s e f in sym (merged-refused D s m n p.apart p.merged)

  pub permitted_trivial : (r : Bool) → TrivialIs area at r → r ≡ true → PermittedIs flags area at true
  unfolding PermittedIs
  permitted_trivial r h q D s irr e f =
      let own : (n : ℕ) → class_in s.classes n ≡ n = trivial_own area at r h q s.classes (entry_classes area at s f) in
      sym (apart_permitted D s (λ a b d z. irr a b d (sym (own a) ∙ z ∙ own b)))

  pub none-merged : (n : ℕ) → name_count ≤ n → Respected flags area at n → PermittedIs flags area at true
  unfolding PermittedIs
  none-merged n past so D s irr e f = go (permitted D s) refl
    where
      c : ℕ → ℕ
      c = class_in s.classes

      names : (a b : ℕ) → MergedPair D s a b → Dec (a < name_count) → Dec (b < name_count) → (a < name_count) × (b < name_count)
      names a b p (yes l) (yes h) = (l, h)
      names a b p (yes l) (no h) = absurd (omega (arith, f.within a l, entry-alone area at s f b (omega arith), p.merged))
      names a b p (no l) (yes h) = absurd (omega (arith, f.within b h, entry-alone area at s f a (omega arith), p.merged))
      names a b p (no l) (no h) = absurd (irr a b p.apart (entry-alone area at s f a (omega arith) ∙ p.merged ∙ sym (entry-alone area at s f b (omega arith))))

      none : (a b : ℕ) → MergedPair D s a b → ⊥
      none a b p =
          let (l, h) = names a b p (dec_lt a name_count) (dec_lt b name_count) in
          either l h (ℕ_discrete (c a) a)
        where
          either : a < name_count → b < name_count → Dec (c a ≡ a) → ⊥
          either l h (no d) =
              so D s e f a (omega arith) d b h (λ z. irr a b p.apart (sym z)) (record { apart = apart_sym D a b p.apart; merged = sym p.merged })
          either l h (yes d) = so D s e f b (omega arith) (λ z. irr a b p.apart (sym d ∙ p.merged ∙ z)) a l (irr a b p.apart) p

      go : (t : Bool) → permitted D s ≡ t → true ≡ permitted D s
      go true q = sym q
      go false q = let (a, b, p) = refused-merged D s q in absurd (none a b p)

-- Where no pair is apart every step is permitted.
pub permitted-none : (flags area : List ℕ) (at : ℕ) (r : Bool) → NoneApartIs flags r → r ≡ true → PermittedIs flags area at true
unfolding NoneApartIs flag
permitted-none flags area at r n q = none-merged flags area at name_count (omega arith) (λ D s e f j l d m h k p. go D e m j p.apart h l k (dec_lt m j))
  where
    ordered : (D : Pairs) → flags ≡ flags_of D → (a b : ℕ) → a < b → b < name_count → Apart D a b → ⊥
    ordered D e a b l h d =
        let i = number_right a b l h in
        let z = held flags a b (number_of name_count a b) i D e in
        omega (arith, z, ap flag (apart_holds D a b d), n q (number_of name_count a b) i.below)

    go : (D : Pairs) → flags ≡ flags_of D → (m j : ℕ) → Apart D m j → m < name_count → j < name_count → (m ≡ j → ⊥) → Dec (m < j) → ⊥
    go D e m j d h l k (yes b) = ordered D e m j b l d
    go D e m j d h l k (no b) = ordered D e j m (omega arith) h (apart_sym D m j d)

-- Which steps must be answered.
module _ (differ : Bool) (flags area : List ℕ) (at : ℕ) (r : Bool) where
  pub allowed_trivial : differ ≡ true → TrivialIs area at r → AllowedIs differ flags area at r
  unfolding AllowedIs TrivialIs allowed unconditional
  allowed_trivial q h D s e irr f = rw q (h s.classes (entry_classes area at s f))

  pub allowed-permitted : differ ≡ false → PermittedIs flags area at r → AllowedIs differ flags area at r
  unfolding AllowedIs PermittedIs allowed
  allowed-permitted q h D s e irr f = rw q (h D s irr e f)
