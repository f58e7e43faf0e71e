-- Pairs that pass a test: those of the names of two parts, and those of a distinction, rewritten. Assumes nothing.
use mathlib.Core.Path.{◌≡◌, refl, sym, ap, ap₂, ◌∙◌}
use mathlib.Core.Bool.{Bool, true, false, cond, ◌&&◌}
use mathlib.Core.List.{List, [], ◌∷◌, ◌++◌, map}
use mathlib.Core.Logic.{inl, inr}
use Prim.Native.Nat.{ℕ, zero, suc, ◌+◌, ◌<◌}
use native.Mathlib.Decide.{dec_lt}
use native.Mathlib.Omega.{arith}
use lib.ListN.{length, get_or, drop}
use lib.Seq.{drop-cons}
use Rattle.calculus.specs.Cond.{Pairs, map_p}
use Rattle.calculus.specs.Distinction.{Apart, among, keep}
use Rattle.calculus.specs.Free.{fn}
use Rattle.calculus.specs.Term.{Term}
use Rattle.calculus.proofs.Distinctions.{apart_sym, apart_at, apart_map, of_apart_map}
use Rattle.terms.specs.Limits.{name_count}
use Rattle.terms.specs.Operations.{holds_apart}
use Rattle.terms.proofs.ApartLaws.{holds_apart_lem, apart_holds}
use Rattle.steps.specs.Listed.{ListedStep, names_from, class_in}
use Rattle.field_pairs.specs.Entry.{EntryAt}
use Rattle.field_pairs.specs.PairNumbers.{pair_at, number_of}
use Rattle.field_pairs.specs.PairFlags.{pair_count}
use Rattle.field.specs.Situation.{free_from, free_in, pairs_of, all_pairs, situation}
use Rattle.field_pairs.specs.Slot.{flag, flags_of}
use Rattle.field_pairs.proofs.EntryLaws.{entry-alone}
use Rattle.field_pairs.proofs.PairLaws.{length_flags, flag_at, flags_are}
use Rattle.field_pairs.proofs.NamePairs.{number_right, pair_ordered, pair_below, length_pairs}

-- one pair more, from the back
pub keep-drop : (f : ℕ → ℕ → Bool) (k : ℕ) → k < pair_count
    → keep f (drop k (all_pairs name_count)) ≡ cond (f (pair_at name_count k).0 (pair_at name_count k).1) (pair_at name_count k ∷ keep f (drop (k + 1) (all_pairs name_count))) (keep f (drop (k + 1) (all_pairs name_count)))
unfolding keep pair_at
keep-drop f k h =
    let e : suc k ≡ k + 1 = omega arith in
    ap (keep f) (drop-cons (all_pairs name_count) k (0, 0) (omega (arith, length_pairs)))
    ∙ ap (λ j. cond (f (pair_at name_count k).0 (pair_at name_count k).1) (pair_at name_count k ∷ keep f (drop j (all_pairs name_count))) (keep f (drop j (all_pairs name_count)))) e

keep-++ : (f : ℕ → ℕ → Bool) (D E : Pairs) → keep f (D ++ E) ≡ keep f D ++ keep f E
unfolding keep
keep-++ f [] E = refl
keep-++ f (p ∷ D) E = go (f p.0 p.1) (keep-++ f D E)
  where
    go : (t : Bool) → keep f (D ++ E) ≡ keep f D ++ keep f E → cond t (p ∷ keep f (D ++ E)) (keep f (D ++ E)) ≡ cond t (p ∷ keep f D) (keep f D) ++ keep f E
    go true e = ap (λ l. p ∷ l) e
    go false e = e

keep-keep : (f g : ℕ → ℕ → Bool) (D : Pairs) → keep f (keep g D) ≡ keep (λ a b. f a b && g a b) D
unfolding keep
keep-keep f g [] = refl
keep-keep f g (p ∷ D) = go (f p.0 p.1) refl (g p.0 p.1) (keep-keep f g D)
  where
    and_false : (s : Bool) → (s && false) ≡ false
    and_false true = refl
    and_false false = refl

    go : (s : Bool) → f p.0 p.1 ≡ s → (t : Bool) → keep f (keep g D) ≡ keep (λ a b. f a b && g a b) D
        → keep f (cond t (p ∷ keep g D) (keep g D)) ≡ cond (s && t) (p ∷ keep (λ a b. f a b && g a b) D) (keep (λ a b. f a b && g a b) D)
    go true q true e = rw q (ap (λ l. p ∷ l) e)
    go true q false e = e
    go false q true e = rw q e
    go false q false e = e

-- The pairs of the names of a set are those pairs of all names of which both are in the set.
module _ (G : List ℕ) where
  abbrev both : ℕ → ℕ → Bool
  both a b = among G a && among G b

  row_kept : (a n k : ℕ) → among G a ≡ true → keep both (map (λ b. (a, b)) (names_from n k)) ≡ map (λ b. (a, b)) (free_from G n k)
  unfolding keep free_from names_from
  row_kept a n zero e = refl
  row_kept a n (suc k) e = rw e (go (among G n) (row_kept a (suc n) k e))
    where
      go : (t : Bool) → keep both (map (λ b. (a, b)) (names_from (suc n) k)) ≡ map (λ b. (a, b)) (free_from G (suc n) k)
          → cond t ((a, n) ∷ keep both (map (λ b. (a, b)) (names_from (suc n) k))) (keep both (map (λ b. (a, b)) (names_from (suc n) k)))
          ≡ map (λ b. (a, b)) (cond t (n ∷ free_from G (suc n) k) (free_from G (suc n) k))
      go true r = ap (λ l. (a, n) ∷ l) r
      go false r = r

  row_dropped : (a : ℕ) (bs : List ℕ) → among G a ≡ false → keep both (map (λ b. (a, b)) bs) ≡ []
  unfolding keep
  row_dropped a [] e = refl
  row_dropped a (b ∷ bs) e = rw e (row_dropped a bs e)

  pairs-kept : (n k : ℕ) → pairs_of (free_from G n k) ≡ keep both (pairs_of (names_from n k))
  unfolding pairs_of free_from names_from keep
  pairs-kept n zero = refl
  pairs-kept n (suc k) = go (among G n) refl (pairs-kept (suc n) k)
    where
      go : (t : Bool) → among G n ≡ t → pairs_of (free_from G (suc n) k) ≡ keep both (pairs_of (names_from (suc n) k))
          → pairs_of (cond t (n ∷ free_from G (suc n) k) (free_from G (suc n) k))
          ≡ keep both (map (λ b. (n, b)) (names_from (suc n) k) ++ pairs_of (names_from (suc n) k))
      go true e r =
          ap₂ ◌++◌ (sym (row_kept n (suc n) k e)) r ∙ sym (keep-++ both (map (λ b. (n, b)) (names_from (suc n) k)) (pairs_of (names_from (suc n) k)))
      go false e r =
          r ∙ ap (λ l. l ++ keep both (pairs_of (names_from (suc n) k))) (sym (row_dropped n (names_from (suc n) k) e))
          ∙ sym (keep-++ both (map (λ b. (n, b)) (names_from (suc n) k)) (pairs_of (names_from (suc n) k)))

pub situation-kept : (P Q : Term) (E : Pairs)
    → keep (λ a b. holds_apart E a b && (among (fn P ++ fn Q) a && among (fn P ++ fn Q) b)) (all_pairs name_count) ≡ (situation name_count P Q E).apart
unfolding situation free_in all_pairs
situation-kept P Q E =
    sym (ap (keep (holds_apart E)) (pairs-kept (fn P ++ fn Q) 0 name_count) ∙ keep-keep (holds_apart E) (both (fn P ++ fn Q)) (pairs_of (names_from 0 name_count)))

-- Where no pair of names is apart, none is kept.
keep-none : (f : ℕ → ℕ → Bool) (L : Pairs) → ((k : ℕ) → k < length L → f (get_or L k (0, 0)).0 (get_or L k (0, 0)).1 ≡ false) → keep f L ≡ []
unfolding keep
keep-none f [] h = refl
keep-none f (p ∷ L) h = rw (h 0 (omega arith)) (keep-none f L (λ k l. h (suc k) (omega arith)))

pub none_kept : (P Q : Term) (E : Pairs) → ((k : ℕ) → k < pair_count → holds_apart E (pair_at name_count k).0 (pair_at name_count k).1 ≡ false)
    → (situation name_count P Q E).apart ≡ []
unfolding pair_at
none_kept P Q E h =
    sym (situation-kept P Q E)
    ∙ keep-none (λ a b. holds_apart E a b && (among (fn P ++ fn Q) a && among (fn P ++ fn Q) b)) (all_pairs name_count)
    (λ k l. rw (h k (omega (arith, length_pairs))))

-- The pairs of names that a distinction holds apart.
kept_apart : (E L : Pairs) (a b : ℕ) → Apart (keep (holds_apart E) L) a b → Apart E a b
unfolding keep
kept_apart E [] a b d = elim d [ ]
kept_apart E (p ∷ L) a b d = go (holds_apart E p.0 p.1) refl d (λ h. kept_apart E L a b h)
  where
    go : (t : Bool) → holds_apart E p.0 p.1 ≡ t → Apart (cond t (p ∷ keep (holds_apart E) L) (keep (holds_apart E) L)) a b
        → (Apart (keep (holds_apart E) L) a b → Apart E a b) → Apart E a b
    go true e (inl (h, k)) r = apart_at E (sym h) (sym k) (holds_apart_lem E p.0 p.1 e)
    go true e (inr (inl (h, k))) r = apart_at E (sym k) (sym h) (apart_sym E p.0 p.1 (holds_apart_lem E p.0 p.1 e))
    go true e (inr (inr h)) r = r h
    go false e h r = r h

apart_kept : (f : ℕ → ℕ → Bool) (L : Pairs) (n : ℕ) (p : ℕ × ℕ) → n < length L → get_or L n (0, 0) ≡ p → f p.0 p.1 ≡ true
    → Apart (keep f L) p.0 p.1
unfolding keep
apart_kept f [] n p h q e = absurd (omega arith)
apart_kept f (r ∷ L) zero p h q e = rw (q, e) (inl (refl, refl))
apart_kept f (r ∷ L) (suc n) p h q e = go (f r.0 r.1) (apart_kept f L n p (omega arith) q e)
  where
    go : (t : Bool) → Apart (keep f L) p.0 p.1 → Apart (cond t (r ∷ keep f L) (keep f L)) p.0 p.1
    go true a = inr (inr a)
    go false a = a

-- what is kept of pairs whose smaller name stands first passed the test
kept-passed : (f : ℕ → ℕ → Bool) (L : Pairs) → ((k : ℕ) → k < length L → (get_or L k (0, 0)).0 < (get_or L k (0, 0)).1) → (a b : ℕ) → a < b
    → Apart (keep f L) a b → f a b ≡ true
unfolding keep
kept-passed f [] o a b l d = elim d [ ]
kept-passed f (p ∷ L) o a b l d = go (f p.0 p.1) refl d (λ h. kept-passed f L (λ k m. o (suc k) (omega arith)) a b l h)
  where
    go : (t : Bool) → f p.0 p.1 ≡ t → Apart (cond t (p ∷ keep f L) (keep f L)) a b → (Apart (keep f L) a b → f a b ≡ true) → f a b ≡ true
    go true e (inl (h, k)) r = ap₂ f (sym h) (sym k) ∙ e
    go true e (inr (inl (h, k))) r = absurd (omega (arith, o 0 (omega arith), h, k))
    go true e (inr (inr h)) r = r h
    go false e h r = r h

-- of all pairs of names those are kept that pass
pub kept_holds : (f : ℕ → ℕ → Bool) (k : ℕ) → k < pair_count → holds_apart (keep f (all_pairs name_count)) (pair_at name_count k).0 (pair_at name_count k).1 ≡ f (pair_at name_count k).0 (pair_at name_count k).1
unfolding pair_at
kept_holds f k h = go (f a b) refl (holds_apart K a b) refl
  where
    a : ℕ
    a = (pair_at name_count k).0

    b : ℕ
    b = (pair_at name_count k).1

    K : Pairs
    K = keep f (all_pairs name_count)

    go : (s : Bool) → f a b ≡ s → (t : Bool) → holds_apart K a b ≡ t → holds_apart K a b ≡ f a b
    go true p t q = apart_holds K a b (apart_kept f (all_pairs name_count) k (pair_at name_count k) (omega (arith, length_pairs)) refl p) ∙ sym p
    go false p true q =
        q ∙ sym (kept-passed f (all_pairs name_count) (λ j l. pair_ordered j (omega (arith, length_pairs))) a b (pair_ordered k h) (holds_apart_lem K a b q))
    go false p false q = q ∙ sym p

-- Distinctions that hold the same pairs of names apart have the same flags.
same_flags : (D E : Pairs) → ((a b : ℕ) → a < b → b < name_count → Apart D a b → Apart E a b)
    → ((a b : ℕ) → a < b → b < name_count → Apart E a b → Apart D a b) → flags_of D ≡ flags_of E
same_flags D E f g = flags_are E (flags_of D) (length_flags D) (λ k h. flag_at D k h ∙ ap flag (at k h))
  where
    clash : {A : Type 0} → ◌≡◌ {A = Bool} true false → A
    clash e = let z : ◌≡◌ {A = ℕ} 0 1 = cc in absurd (omega arith)

    at : (k : ℕ) → k < pair_count → holds_apart D (pair_at name_count k).0 (pair_at name_count k).1 ≡ holds_apart E (pair_at name_count k).0 (pair_at name_count k).1
    at k h = go (holds_apart D a b) refl (holds_apart E a b) refl
      where
        a : ℕ
        a = (pair_at name_count k).0

        b : ℕ
        b = (pair_at name_count k).1

        go : (s : Bool) → holds_apart D a b ≡ s → (t : Bool) → holds_apart E a b ≡ t → holds_apart D a b ≡ holds_apart E a b
        go true p true q = p ∙ sym q
        go true p false q = clash (sym (apart_holds E a b (f a b (pair_ordered k h) (pair_below k h) (holds_apart_lem D a b p))) ∙ q)
        go false p true q = clash (sym (apart_holds D a b (g a b (pair_ordered k h) (pair_below k h) (holds_apart_lem E a b q))) ∙ p)
        go false p false q = p ∙ sym q

-- Rewritten pairs: it is enough to rewrite the pairs of names that are apart.
module _ (area : List ℕ) (at : ℕ) (s : ListedStep) (f : EntryAt area at s) (E : Pairs) where
  c : ℕ → ℕ
  c = class_in s.classes

  names_apart : (a b : ℕ) → a < b → b < name_count → Apart E a b → Apart (keep (holds_apart E) (all_pairs name_count)) a b
  unfolding pair_at
  names_apart a b l h d =
      let n = number_right a b l h in
      let m : ℕ = number_of name_count a b in
      apart_kept (holds_apart E) (all_pairs name_count) m (a, b) (omega (arith, n.below, length_pairs)) (λ i. (n.first i, n.second i)) (apart_holds E a b d)

  -- whose class is a name is a name
  from_name : (x : ℕ) → c x < name_count → x < name_count
  unfolding c
  from_name x h = go (dec_lt x name_count)
    where
      go : Dec (x < name_count) → x < name_count
      go (yes l) = l
      go (no l) = absurd (omega (arith, entry-alone area at s f x (omega arith)))

  pub flags_rewritten : flags_of (map_p (class_in s.classes) (keep (holds_apart E) (all_pairs name_count))) ≡ flags_of (map_p (class_in s.classes) E)
  unfolding c
  flags_rewritten = same_flags (map_p c K) (map_p c E) there back
    where
      K : Pairs
      K = keep (holds_apart E) (all_pairs name_count)

      there : (a b : ℕ) → a < b → b < name_count → Apart (map_p c K) a b → Apart (map_p c E) a b
      there a b l h d =
          let (x, y, k, p, q) = of_apart_map c K a b d in
          apart_at (map_p c E) p q (apart_map c E x y (kept_apart E (all_pairs name_count) x y k))

      -- two names that are apart, in either order
      either : (x y : ℕ) → x < name_count → y < name_count → (x ≡ y → ⊥) → Apart E x y → Dec (x < y) → Apart K x y
      either x y l m n d (yes h) = names_apart x y h m d
      either x y l m n d (no h) = apart_sym K y x (names_apart y x (omega arith) l (apart_sym E x y d))

      back : (a b : ℕ) → a < b → b < name_count → Apart (map_p c E) a b → Apart (map_p c K) a b
      back a b l h d =
          let (x, y, k, p, q) = of_apart_map c E a b d in
          let m : x < name_count = from_name x (omega (arith, p)) in
          let n : y < name_count = from_name y (omega (arith, q)) in
          let z : x ≡ y → ⊥ = λ e. omega (arith, p, q, ap c e) in
          apart_at (map_p c K) p q (apart_map c K x y (either x y m n z k (dec_lt x y)))

  -- where no two names are apart, no two classes are
  pub none-rewritten : ((k : ℕ) → k < pair_count → holds_apart E (pair_at name_count k).0 (pair_at name_count k).1 ≡ false) → flags_of [] ≡ flags_of (map_p (class_in s.classes) E)
  unfolding pair_at
  none-rewritten h =
      ap (λ K. flags_of (map_p (class_in s.classes) K)) (sym (keep-none (holds_apart E) (all_pairs name_count) (λ k l. h k (omega (arith, length_pairs))))) ∙ flags_rewritten
